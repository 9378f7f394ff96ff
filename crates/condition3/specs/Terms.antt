-- The names that the books and condition 3 take from elsewhere, passed on: texts, and the types
-- that the code declares. No definition of the engine's rules is among them but the status, which every answer shows, and the
-- time limit, which SAF shows.
pub use Rattle.base.specs.Text.{letter, text}
pub use Rattle.drive.specs.declared.directions.Direction.{Direction}
pub use Rattle.drive.specs.declared.directions.Direction.TheVariants.{Infuse, Withdraw}
pub use Rattle.drive.specs.declared.rates.RateUnit.{RateUnit}
pub use Rattle.drive.specs.declared.rates.RateUnit.TheVariants.{Um, Mm, Uh, Mh}
pub use Rattle.words.specs.Functions.{number, datum}
pub use Rattle.words.specs.declared.phases.Phase.{Phase}
pub use Rattle.loops.specs.declared.Loop.{Loop}
pub use Rattle.dispense.specs.declared.rates.Rate.{Rate}
unfoldable pub use Rattle.program.specs.Statuses.{status_run}
unfoldable pub use Rattle.link.specs.Link.{limit_of}
unfoldable pub use Rattle.line.specs.Collected.{characters}
unfoldable pub use Rattle.line.specs.Spelling.{leads, is_text}
pub use Rattle.answer.specs.Letters.{status_letter}
pub use Rattle.pump.specs.Holder.{here_of}
pub use Rattle.pump.specs.Reports.{refusal_number}
pub use Rattle.pump.specs.declared.holder.Pump.{Pump}
pub use Rattle.statement.specs.Facts.{loops_of}
pub use Rattle.statement.specs.Histories.{Call, byte_in, pin_at, tick_in, ticks_in, Event, Every}
