-- The head of a cell.
use Rattle.std.specs.Prelude.{ℕ, ◌+◌, ◌*◌, ◌/◌, ◌%◌, ◌^◌, ◌<◌, ◌==◌, Bool, Option, Some, None, min, nat_lt, ◌&&◌, if◌then◌else◌}
use Rattle.ds_layout.specs.declared.head.Head.{Head}
use Rattle.ds_layout.specs.declared.head.TheConstants.{LAST_STAMP}

-- each part of the head fits its place in the word
pub record CanPack (head : Head) : Type 0 where
  pub stamp : head.stamp < 2 ^ 48
  pub process : head.process < 256
  pub number : head.number < 256

-- the head is that of an edit of a sheet with that number of processes, with a stamp from 1 on
pub record IsHead (processes : ℕ) (head : Head) : Type 0 where
  pub counted : 0 < head.stamp
  pub packs : CanPack head
  pub process : head.process < processes

-- the word of a head: its stamp, its process and its number
abbrev pub head_word : Head → ℕ
head_word head = head.stamp * 65536 + head.process * 256 + head.number

-- the parts of a head's word, whatever they are
abbrev pub parts_of : ℕ → Head
parts_of word = record { stamp = word / 65536; process = word / 256 % 256; number = word % 256 }

-- the head that follows the one in this word, of an edit of the process: the last stamp is followed by itself
abbrev pub next_head : ℕ → ℕ → ℕ → Head
next_head word process number = record { stamp = min (word / 65536 + 1) LAST_STAMP; process = process; number = number }

-- the head that the word is: none where the stamp is 0 or the process is none of the sheet
abbrev pub head_of : ℕ → ℕ → Option Head
head_of processes word =
    let head : Head = parts_of word in
    if nat_lt 0 head.stamp && nat_lt head.process processes then Some head else None

-- whether the word names this edit of this process, whatever its stamp
abbrev pub names_edit : ℕ → ℕ → ℕ → Bool
names_edit word process number = word % 65536 == process * 256 + number
