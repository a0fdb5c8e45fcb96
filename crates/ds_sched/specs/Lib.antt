pub use Rattle.ds_script.specs.Script
pub use Rattle.ds_script_stops.specs.StopBlocks
