-- The queue of pq and the registers of pm_registers, of two processes.
use Rattle.std.specs.Prelude.{ℕ}
use Rattle.pm_base.specs.Structures.{Structure}
use Rattle.pq.specs.Queue.{queue}
use Rattle.pq.specs.declared.calls.Doing.{Doing}
use Rattle.pq.specs.declared.calls.Response.{Response}
use Rattle.pm_registers.specs.Registers.{registers}
use Rattle.pm_registers.specs.declared.calls.Doing.{Doing as RegisterDoing}
use Rattle.pm_registers.specs.declared.calls.Response.{Response as RegisterResponse}

-- the queue, whatever its key: its events are those of pq, among two processes
abbrev pub two_processes : Structure ℕ Doing Response
two_processes = record {
  Hidden = queue.Hidden;
  words = λ k. queue.words 2;
  class_in = λ k. queue.class_in 2;
  apart = λ k. queue.apart 2;
  first_word = λ k. queue.first_word 2;
  processes = λ k. queue.processes 2;
  first = queue.first;
  stopped = queue.stopped;
  begins = λ k. queue.begins 2;
  steps = λ k. queue.steps 2;
  first_hidden = λ k. queue.first_hidden 2;
  hidden_after = λ k. queue.hidden_after 2;
  sound = λ k. queue.sound 2;
  is_right = λ k. queue.is_right 2;
}

-- ... and so the registers
abbrev pub two_registers : Structure ℕ RegisterDoing RegisterResponse
two_registers = record {
  Hidden = registers.Hidden;
  words = λ k. registers.words 2;
  class_in = λ k. registers.class_in 2;
  apart = λ k. registers.apart 2;
  first_word = λ k. registers.first_word 2;
  processes = λ k. registers.processes 2;
  first = registers.first;
  stopped = registers.stopped;
  begins = λ k. registers.begins 2;
  steps = λ k. registers.steps 2;
  first_hidden = λ k. registers.first_hidden 2;
  hidden_after = λ k. registers.hidden_after 2;
  sound = λ k. registers.sound 2;
  is_right = λ k. registers.is_right 2;
}
