pub use Rattle.cpu_8086.specs as cpu_8086
pub use Rattle.mz_file.specs as mz_file
pub use Rattle.overlay_manager.specs as overlay_manager
pub use Rattle.tp_outside.specs as tp_outside
pub mod Outside
pub mod Run
pub mod Transfer
pub mod opened_program
pub mod overlay_runner
pub mod plain_opening
