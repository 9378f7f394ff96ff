-- `Link::left` meets its contract.
-- Assumes nothing.
use Prim.Native.Nat.{ℕ}
use mathlib.Core.Path.{◌≡◌, ◌∙◌}
use Rattle.std.specs.Option.{option_map_or}
use Rattle.std.proofs.Common.{rules}
use Rattle.link.specs.Link.{ticks_left}
use Rattle.link.specs.declared.Safety.{Safety}
use Rattle.link.proofs.Modes.{left_is}
use Rattle.link.proofs.Link.left.Goals as goal

pub returns : goal.returns
unfolding ticks_left
returns c =
    let read : c.map_or.result ≡ option_map_or (λ (s : Safety). option_map_or (λ (t : ℕ). t) s.timer 0) c.args.self.safety 0 =
    search rules in
    read ∙ left_is c.args.self.safety
