-- What a read of the input comes to.
pub mod Serving
