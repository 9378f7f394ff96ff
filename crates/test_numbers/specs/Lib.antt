-- What the crate's contracts cite: how C sees a result.
pub mod Face
