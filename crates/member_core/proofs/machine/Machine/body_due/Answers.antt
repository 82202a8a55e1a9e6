-- The body of the row of the stage's kind.
use Rattle.std.proofs.Common.{◌≡◌, ℕ, Some, None, ap, sym, ◌∙◌, refl}
use Rattle.std.proofs.lemmas.Result.{IfOk-weaker}
use Rattle.phase_message.specs.declared.stage.StageKind.{StageKind}
use Rattle.phase_message.specs.declared.stage.StageKind.TheVariants.{Submit, Final}
use Rattle.phase_message.specs.Stages.{kind_of_stage}
use Rattle.member_core.proofs.Dispatch.{due-of, has-kind, kind-told, needed-plain, plain-apart, plain-kind, same-own, same-secrets, second-shuffle, stands-plain}
use Rattle.member_core.proofs.Saying.{ok-all}
use Rattle.member_core.proofs.machine.Machine.body_due.Goals as goal
use Rattle.member_core.proofs.machine.Machine.body_due.Goals.{In-Final, In-Submit, In-Submit-eq1}

pub unreachable-requires : goal.unreachable-requires
unreachable-requires g c = has-kind c.args.self.now c.requires.asked
    (kind-told c.args.self.now None c.requires.formed c.in_default.ensures.kind)

pub unreachable-unreachable : goal.unreachable-unreachable
unreachable-unreachable g c = c.unreachable.result

-- a submission to shuffle A
submits-first : (g : Rattle.member_core.proofs.machine.Machine.body_due.Given.Over) (c : In-Submit-eq1 g)
    → kind_of_stage c.args.self.now.log.shape c.args.self.now.stage ≡ Some (Submit 1)
submits-first g c =
    kind-told c.args.self.now (Some c.in-Some.kind) c.requires.formed c.in-Some.ensures.kind
    ∙ ap (λ (kind : StageKind). Some kind) c.in-Submit-eq1.is
    ∙ ap (λ (shuffle : ℕ). Some (Submit shuffle)) (sym c.in-Submit-eq1.shuffle-is ∙ c.in-Submit-eq1.shuffle-test)

-- and one to shuffle B
submits-second : (g : Rattle.member_core.proofs.machine.Machine.body_due.Given.Over) (c : In-Submit g)
    → kind_of_stage c.args.self.now.log.shape c.args.self.now.stage ≡ Some (Submit 2)
submits-second g c =
    let m = c.args.self.now in
    let at = kind-told m (Some c.in-Some.kind) c.requires.formed c.in-Some.ensures.kind
    ∙ ap (λ (kind : StageKind). Some kind) c.in-Submit.is in
    at ∙ ap (λ (shuffle : ℕ). Some (Submit shuffle)) (second-shuffle m.log.shape m.stage c.in-Submit.shuffle at
    (λ e. c.in-Submit.shuffle-test.1 (c.in-Submit.shuffle-is ∙ e)))

-- the end of a shuffle
ends-shuffle : (g : Rattle.member_core.proofs.machine.Machine.body_due.Given.Over) (c : In-Final g)
    → kind_of_stage c.args.self.now.log.shape c.args.self.now.stage ≡ Some (Final c.in-Final.shuffle)
ends-shuffle g c =
    kind-told c.args.self.now (Some c.in-Some.kind) c.requires.formed c.in-Some.ensures.kind
    ∙ ap (λ (kind : StageKind). Some kind) c.in-Final.is

pub first_submission_due-requires : goal.first_submission_due-requires
first_submission_due-requires g c = record {
  formed = c.requires.formed;
  ready = c.requires.ready;
  needed = c.requires.needed;
  asked = c.requires.asked;
  kind = submits-first g (goal.at.first_submission_due-requires g c).In-Submit-eq1;
}

pub second_submission_due-requires : goal.second_submission_due-requires
second_submission_due-requires g c = record {
  formed = c.requires.formed;
  ready = c.requires.ready;
  needed = c.requires.needed;
  asked = c.requires.asked;
  kind = submits-second g (goal.at.second_submission_due-requires g c).In-Submit;
}

pub end_due-requires : goal.end_due-requires
end_due-requires g c = record {
  formed = c.requires.formed;
  ready = c.requires.ready;
  needed = c.requires.needed;
  asked = c.requires.asked;
  kind = ends-shuffle g (goal.at.end_due-requires g c).In-Final;
}

pub row_due-requires : goal.row_due-requires
row_due-requires g c = record {
  formed = c.requires.formed;
  ready = c.requires.ready;
  needed = c.requires.needed;
  asked = c.requires.asked;
  kind = kind-told c.args.self.now (Some c.in-Some.kind) c.requires.formed c.in-Some.ensures.kind;
  plain = plain-kind c.in-Some.kind c.in_default-kind.not-Submit c.in_default-kind.not-Final;
}

-- ----

pub returns-in-Submit-eq1 : goal.returns-in-Submit-eq1
returns-in-Submit-eq1 g c = record {
  formed = c.first_submission_due.ensures.formed;
  same = ok-all c.first_submission_due.result _
      (λ _. same-own c.args.self.now c.first_submission_due.new.self c.first_submission_due.ensures.same);
  needed = c.first_submission_due.ensures.needed;
  due = (let here = submits-first g (goal.at.returns-in-Submit-eq1 g c).In-Submit-eq1 in
      IfOk-weaker c.first_submission_due.result _ _ (λ body due kind also. due-of (g.C.Conduct.replies c.args.conduct.now) c.args.self.now
      (Submit 1) kind body here also due) c.first_submission_due.ensures.due
      );
  stands = c.first_submission_due.ensures.stands;
}

-- ----

pub returns-in-Submit : goal.returns-in-Submit
returns-in-Submit g c = record {
  formed = c.second_submission_due.ensures.formed;
  same = ok-all c.second_submission_due.result _ (λ _. c.second_submission_due.ensures.same);
  needed = c.second_submission_due.ensures.needed;
  due = (let here = submits-second g (goal.at.returns-in-Submit g c).In-Submit in
      IfOk-weaker c.second_submission_due.result _ _ (λ body due kind also. due-of (g.C.Conduct.replies c.args.conduct.now) c.args.self.now
      (Submit 2) kind body here also (due (g.C.Conduct.replies c.args.conduct.now))) c.second_submission_due.ensures.due
      );
  stands = IfOk-weaker c.second_submission_due.result _ _
      (λ _ so start conf a s. so (g.C.Conduct.replies c.args.conduct.now) start conf a s) c.second_submission_due.ensures.stands;
}

-- ----

pub returns-in-Final : goal.returns-in-Final
returns-in-Final g c = record {
  formed = c.end_due.ensures.formed;
  same = ok-all c.end_due.result _ (λ _. same-secrets c.args.self.now c.end_due.new.self c.end_due.ensures.same);
  needed = c.end_due.ensures.needed;
  due = (let here = ends-shuffle g (goal.at.returns-in-Final g c).In-Final in
      IfOk-weaker c.end_due.result _ _ (λ body due kind also. due-of (g.C.Conduct.replies c.args.conduct.now) c.args.self.now
      (Final c.in-Final.shuffle) kind body here also (due (g.C.Conduct.replies c.args.conduct.now))) c.end_due.ensures.due
      );
  stands = IfOk-weaker c.end_due.result _ _
      (λ _ so start conf a s. so (g.C.Conduct.replies c.args.conduct.now) start conf a s) c.end_due.ensures.stands;
}

-- ----

pub returns-in_default-kind : goal.returns-in_default-kind
returns-in_default-kind g c =
    let m = c.args.self.now in
    let now = g.C.Conduct.replies c.args.conduct.now in
    let at = kind-told m (Some c.in-Some.kind) c.requires.formed c.in-Some.ensures.kind in
    let apart = plain-apart m.log.shape m.stage c.in-Some.kind at
    (plain-kind c.in-Some.kind c.in_default-kind.not-Submit c.in_default-kind.not-Final) in
    record {
      formed = c.requires.formed;
      same = ok-all c.row_due.result _ (λ _. refl);
      needed = ok-all c.row_due.result _ (λ _. needed-plain m c.requires.needed c.requires.asked apart);
      due = IfOk-weaker c.row_due.result _ _ (λ body due kind also. due-of now m c.in-Some.kind kind body at also (due now)) c.row_due.ensures;
      stands = ok-all c.row_due.result _ (λ _ start conf a s. stands-plain now start conf a m c.requires.asked apart s);
    }
