pub mod Devices
pub mod LineProofs
