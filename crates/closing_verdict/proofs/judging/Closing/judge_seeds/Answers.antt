use Rattle.std.proofs.Common.{◌≡◌, ℕ, ◌+◌, All, true, List, length, map, Option, Some, ap, sym, ◌∙◌, subst, arith}
use Rattle.std.specs.Prelude.{option_map}
use Rattle.std.specs.List.{list_all}
use Rattle.std.proofs.lemmas.List.{length-map}
use Rattle.wire_core.specs.Answers.{first_below}
use Rattle.phase_message.specs.declared.stage.StageKind.{StageKind}
use Rattle.phase_message.specs.declared.stage.StageKind.TheVariants.{Final as AtFinal}
use Rattle.phase_message.specs.Stages.{kind_of_stage}
use Rattle.shuffle_blame.specs.Asked.{past_of}
use Rattle.round_spec.specs.Slots.{inner_place, items_opened, keys_said}
use Rattle.round_spec.specs.Verdict.{agreed_at, wrong_seed}
use Rattle.closing_verdict.specs.declared.reading.Told.{Told}
use Rattle.closing_verdict.specs.Closed.{AreTold}
use Rattle.closing_verdict.specs.Judgement.{Completed, IsComplete, completed_of, stage_closed, verdict_in}
use Rattle.closing_verdict.specs.Telling.{TellsSeed, seed_conviction, seed_told, tells_assent, wrong_at}
use Rattle.closing_verdict.proofs.Agreements.{agreed-verdict, all-seeds, told-count}
use Rattle.closing_verdict.proofs.ClosedStages.{closing-late, end-first, end-second}
use Rattle.closing_verdict.proofs.SeedVerdicts.{first-goes, second-comes, seed-convicts, seeds-are, wrong-told}
use Rattle.closing_verdict.proofs.judging.Closing.judge_seeds.Goals as goal

-- what the comparison found
wrong-found : (c : Completed) (told : List Told) (given seeds keys : List (List ℕ)) (shuffle : ℕ) (found : Option ℕ) → IsComplete c
    → AreTold c told → given ≡ seeds → seeds ≡ map seed_told told
    → keys ≡ keys_said c.log.shape (past_of c.log 1) (inner_place shuffle) → found ≡ first_below (length given) (wrong_at given keys)
    → wrong_seed (stage_closed c) shuffle ≡ option_map (seed_conviction (stage_closed c)) found
wrong-found c told given seeds keys shuffle found is are same seeds_are keys_are found_is =
    let late = closing-late c.log.shape c.stage is.closing in
    let all : given ≡ map seed_told told = same ∙ seeds_are in
    wrong-told c told given keys shuffle (length given) found is are (let least = late.least in omega arith) all keys_are
    (ap (λ (t : List (List ℕ)). length t) all ∙ length-map told seed_told ∙ told-count c told are) found_is

-- the verdict of the end of the shuffle
final-verdict : (c : Completed) (told : List Told) (shuffle : ℕ) → IsComplete c → AreTold c told → list_all tells_assent told ≡ true
    → kind_of_stage c.log.shape c.stage ≡ Some (AtFinal shuffle)
    → verdict_in c ≡ agreed_at (stage_closed c) (Some (AtFinal shuffle))
final-verdict c told shuffle is are agree at = agreed-verdict c told is are agree ∙ ap (agreed_at (stage_closed c)) at

pub seeds_revealed-requires : goal.seeds_revealed-requires
seeds_revealed-requires c =
    subst (λ (t : List Told). All TellsSeed t) (sym c.deref.ensures.value)
    (all-seeds (completed_of c.args.self) c.args.told.now.items c.args.shuffle c.requires.closing.complete c.requires.told c.requires.at
    c.requires.agree)

pub convict_seed-requires-clause-verdict : goal.convict_seed-requires-clause-verdict
convict_seed-requires-clause-verdict c =
    let x : Completed = completed_of c.args.self in
    let told : List Told = c.args.told.now.items in
    let is = c.requires.closing.complete in
    let seeds_are = c.in_ok-seeds.ensures ∙ ap (λ (t : List Told). map seed_told t) c.deref.ensures.value in
    seed-convicts (stage_closed x) (verdict_in x) c.args.shuffle c.in-Some.member c.wrong_seed.result
    (final-verdict x told c.args.shuffle is c.requires.told c.requires.agree c.requires.at)
    (wrong-found x told c.deref-2.result.now c.in_ok-seeds.seeds.items c.inner_keys.result.now c.args.shuffle c.wrong_seed.result is
    c.requires.told c.deref-2.ensures.value seeds_are c.inner_keys.ensures.keys
    c.wrong_seed.ensures) c.in-Some.is

pub overflow_add-self : goal.overflow_add-self
overflow_add-self c =
    let late = closing-late c.args.self.log.now.shape c.args.self.stage c.requires.closing.complete.closing in
    omega (arith, late.most, c.requires.closing.complete.form.shape.most)

pub opened_items-requires-clause-seeds : goal.opened_items-requires-clause-seeds
opened_items-requires-clause-seeds c =
    seeds-are (completed_of c.args.self) c.args.told.now.items c.in_ok-seeds.seeds.items 1 c.requires.closing.complete c.requires.told
    (c.in_ok-seeds.ensures ∙ ap (λ (t : List Told). map seed_told t) c.deref.ensures.value)
    (end-first c.args.self.log.now.shape c.args.self.stage c.args.shuffle c.requires.at c.if-shuffle-eq1.true)

pub returns-then-shuffle-eq1 : goal.returns-then-shuffle-eq1
returns-then-shuffle-eq1 c =
    let x : Completed = completed_of c.args.self in
    let log = c.args.self.log.now in
    let told : List Told = c.args.told.now.items in
    let is = c.requires.closing.complete in
    let ends = end-first log.shape c.args.self.stage c.args.shuffle c.requires.at c.if-shuffle-eq1.true in
    let seeds_are = c.in_ok-seeds.ensures ∙ ap (λ (t : List Told). map seed_told t) c.deref.ensures.value in
    record {
      at = c.requires.at ∙ ap (λ (s : ℕ). some_final s) c.if-shuffle-eq1.true;
      verdict = first-goes (stage_closed x) (verdict_in x) c.args.shuffle c.wrong_seed.result
          (final-verdict x told c.args.shuffle is c.requires.told c.requires.agree c.requires.at)
          (wrong-found x told c.deref-2.result.now c.in_ok-seeds.seeds.items c.inner_keys.result.now c.args.shuffle c.wrong_seed.result is
          c.requires.told c.deref-2.ensures.value seeds_are c.inner_keys.ensures.keys
          c.wrong_seed.ensures) c.in_default.is c.if-shuffle-eq1.true;
      opened = record {
        are = c.in_ok-items.ensures.value ∙ ap (λ (stage : ℕ). items_opened log.shape (past_of log (stage + 1)) 1) ends;
        count = omega (arith, c.in_ok-items.items.ok.0, c.in_ok-items.ensures.count);
      };
    }
  where
    some_final : ℕ → Option StageKind
    some_final s = Some (AtFinal s)

pub judge_accusations-requires-clause-at : goal.judge_accusations-requires-clause-at
judge_accusations-requires-clause-at c =
    c.requires.at ∙ ap (λ (s : ℕ). some_final s) (end-second c.args.self.log.now.shape c.args.self.stage c.args.shuffle c.requires.at
    c.if-shuffle-eq1.false).0
  where
    some_final : ℕ → Option StageKind
    some_final s = Some (AtFinal s)

pub judge_accusations-requires-clause-seeds : goal.judge_accusations-requires-clause-seeds
judge_accusations-requires-clause-seeds c =
    seeds-are (completed_of c.args.self) c.args.told.now.items c.in_ok-seeds.seeds.items 2 c.requires.closing.complete c.requires.told
    (c.in_ok-seeds.ensures ∙ ap (λ (t : List Told). map seed_told t) c.deref.ensures.value)
    (end-second c.args.self.log.now.shape c.args.self.stage c.args.shuffle c.requires.at c.if-shuffle-eq1.false).1

pub judge_accusations-requires-clause-agree : goal.judge_accusations-requires-clause-agree
judge_accusations-requires-clause-agree c =
    let x : Completed = completed_of c.args.self in
    let told : List Told = c.args.told.now.items in
    let is = c.requires.closing.complete in
    let seeds_are = c.in_ok-seeds.ensures ∙ ap (λ (t : List Told). map seed_told t) c.deref.ensures.value in
    second-comes (stage_closed x) (verdict_in x) c.args.shuffle c.wrong_seed.result
    (final-verdict x told c.args.shuffle is c.requires.told c.requires.agree c.requires.at)
    (wrong-found x told c.deref-2.result.now c.in_ok-seeds.seeds.items c.inner_keys.result.now c.args.shuffle c.wrong_seed.result is
    c.requires.told c.deref-2.ensures.value seeds_are c.inner_keys.ensures.keys
    c.wrong_seed.ensures) c.in_default.is c.if-shuffle-eq1.false
