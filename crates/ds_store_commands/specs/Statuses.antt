-- Exit statuses of commands on a store (our own rule).
use Rattle.std.specs.Prelude.{ℕ}
use Rattle.ds_store.specs.declared.fault.StoreFault.{StoreFault}
use Rattle.ds_store.specs.declared.fault.StoreFault.TheVariants as stores

-- the exit status of the commands on a store, by what is wrong with it
abbrev pub store_status_of : StoreFault → ℕ
store_status_of (stores.Database error) = 3
store_status_of stores.Busy = 3
store_status_of stores.Foreign = 1
store_status_of (stores.Missing number) = 1
store_status_of (stores.Line number fault) = 1
store_status_of (stores.Sum number) = 1
store_status_of (stores.NoSum number) = 1
store_status_of (stores.Edit fault) = 1
store_status_of (stores.OtherSheet columns rows processes) = 1
store_status_of stores.NoMemory = 4
