pub mod Json
pub mod Words
pub mod Unknown
pub use Rattle.guppy_arguments.specs.Fault
pub use Rattle.guppy_arguments.specs.Names
pub use Rattle.guppy_arguments.specs.Nearest
pub use Rattle.guppy_arguments.specs.Table
pub use Rattle.guppy_arguments.specs.Told
