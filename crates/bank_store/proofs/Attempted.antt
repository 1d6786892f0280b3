-- An attempt to move the clock on is an advance of the heap's advancer.
pub use Rattle.advance.proofs.Attempted.{attempted}
