pub mod Examples
pub mod SipHash
