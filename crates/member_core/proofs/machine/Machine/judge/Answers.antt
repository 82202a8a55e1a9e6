use Rattle.std.proofs.Common.{◌≡◌, Bor, List, ℕ, Option, Some, None, ap, sym, ◌∙◌, refl, subst, Vec, Global}
use Rattle.std.specs.Option.{option_copied, option_map}
use Rattle.closing_verdict.specs.Carried.{CarriesOpened, CarriesSlots}
use Rattle.member_core.specs.Sound.{CarriesKeys}
use Rattle.member_core.proofs.Judging.{can-be-judged}
use Rattle.member_core.proofs.machine.Machine.judge.Goals as goal

mapped-copied : {A B : Type 0} (f : A → B) (o : Option (Bor A)) → option_map f (option_copied o) ≡ option_map (λ x. f x.now) o
mapped-copied f None = refl
mapped-copied f (Some x) = refl

pub judge-requires : goal.judge-requires
judge-requires c =
    let m = c.args.self.now in
    record {
      complete = can-be-judged c.args.self.now c.requires.formed c.requires.there (sym c.is_closing.ensures ∙ c.if-not-is_closing.false);
      keys = subst (CarriesKeys m.log m.stage) c.in-Some.is c.requires.ready.keys;
      opened = subst (CarriesOpened m.log m.stage)
          (sym (ap (option_map (λ (items : Vec (Option (List ℕ)) Global). items.items)) c.as_ref.ensures.value)
          ∙ mapped-copied (λ (items : Vec (Option (List ℕ)) Global). items.items) c.as_ref.result) c.requires.ready.opened;
      slots = subst (CarriesSlots m.log m.stage) (sym c.as_ref-2.ensures.value) c.requires.ready.slots;
    }
