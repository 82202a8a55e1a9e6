pub use Rattle.bulk_descriptor.specs.Descriptor
pub use Rattle.bulk_descriptor.specs.Fields
pub use Rattle.bulk_descriptor.specs.SlotState
pub use Rattle.bulk_descriptor.specs.Laws
