-- Laws of this crate's own proofs.
mod Choosing
mod Verdicts
mod Asking
mod Deciding
