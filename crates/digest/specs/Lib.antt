pub mod Sha256
pub mod Hmac
pub mod Order
pub mod Roots
pub mod Laws
pub mod Examples
