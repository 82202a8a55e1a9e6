pub mod Forms
pub mod Laws
pub mod Numbers
pub mod Plain
pub mod Request
pub mod Views
