use Rattle.std.proofs.Common.{◌≡◌, ◌-◌, List, ℕ, get_or, sym, subst, ◌∙◌}
use Rattle.group_roster.specs.Given.{roster_of}
use Rattle.group_roster.proofs.Keys.{key_of-is}
use Rattle.group_roster.proofs.roster.Roster.key.Goals as goal

pub returns : goal.returns
returns c =
    let bytes = c.index.result.now in
    let listed : bytes ≡ get_or c.args.self.now.keys (c.args.sender - 1) bytes = subst
    (λ (keys : List (List ℕ)). bytes ≡ get_or keys (c.args.sender - 1) bytes) c.items-keys.ensures c.index.ensures in
    key_of-is (roster_of c.args.self.now) c.args.sender bytes c.in-Ok.key c.requires.least c.requires.most listed
    (sym c.read.ensures.value ∙ c.in-Ok.is)
