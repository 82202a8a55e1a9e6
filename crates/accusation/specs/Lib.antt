pub mod Accusation
pub mod Item
pub mod Laws
pub use Rattle.bulk_descriptor.specs.Descriptor
pub use Rattle.bulk_descriptor.specs.Fields
pub use Rattle.bulk_descriptor.specs.SlotState
