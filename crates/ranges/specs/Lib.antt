-- What the contracts of the private functions cite: they add nothing that a reader of the public ones must believe.
pub mod Limits
