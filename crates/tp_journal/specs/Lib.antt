pub mod Device
pub mod Event
pub mod History
pub mod Journal
pub mod Laws
pub mod Reading
pub mod Text
