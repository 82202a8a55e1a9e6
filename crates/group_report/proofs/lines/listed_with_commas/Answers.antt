use Rattle.std.proofs.Common.{◌≡◌, ◌-◌, ℕ, ap, sym, ◌∙◌, arith}
use Rattle.group_report.specs.Report.{listed_to}
use Rattle.group_report.proofs.Listings.{listed-next, listed-none}
use Rattle.group_report.proofs.lines.listed_with_commas.Goals as goal

pub loop-member-init : goal.loop-member-init
loop-member-init c = c.new-text.ensures.items ∙ sym (listed-none c.args.bits)

pub loop-member-preserved : goal.loop-member-preserved
loop-member-preserved c =
    listed-next c.args.bits c.loop-member.member c.loop-member.text.items c.put_listed.new.text.items (omega arith) c.loop-member.invariant
    c.in_ok-put_listed.ensures

pub returns : goal.returns
returns c =
    let last : c.loop-member.member - 1 ≡ 8 = omega (arith, c.loop-member-test.false) in
    c.loop-member.invariant ∙ ap (λ (n : ℕ). listed_to c.args.bits n) last
