pub mod Waiting
pub mod Slots
pub mod Views
pub mod Laws
pub mod Queues
