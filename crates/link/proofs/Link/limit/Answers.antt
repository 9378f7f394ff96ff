-- `Link::limit` meets its contract.
-- Assumes nothing.
use mathlib.Core.Path.{◌≡◌, ◌∙◌}
use Rattle.std.specs.Option.{option_map_or}
use Rattle.std.proofs.Common.{rules}
use Rattle.link.specs.Link.{limit_of}
use Rattle.link.specs.declared.Safety.{Safety}
use Rattle.link.proofs.Modes.{limit_is}
use Rattle.link.proofs.Link.limit.Goals as goal

pub returns : goal.returns
unfolding limit_of
returns c =
    let read : c.map_or.result ≡ option_map_or (λ (s : Safety). s.limit) c.args.self.safety 0 = search rules in
    read ∙ limit_is c.args.self.safety
