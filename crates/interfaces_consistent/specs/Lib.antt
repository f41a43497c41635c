pub use Rattle.interface_soundness.specs.front_end as front_end
pub use Rattle.interface_soundness.specs as interface_soundness
pub use Rattle.interface_soundness.specs.source_graph as source_graph
pub use Rattle.interface_soundness.specs.tp_outside as tp_outside
pub mod determinism
pub mod interfaces
