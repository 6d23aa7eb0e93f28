pub mod Addresses
pub mod ErrorTexts
pub mod ExtensionHeaders
pub mod FixedHeaders
pub mod Headers
pub mod Ip
pub mod Options
pub mod Protocols
