-- What each call on a key file makes sure of, for all that happens to the file over time.
use Rattle.std.proofs.Common.{◌≡◌, ℕ, ◌+◌, ◌<◌, ◌≤◌, List, Option, Some, None, IfSome, Result, Ok, take, refl, sym, ap, ◌∙◌, subst, arith}
use Rattle.std.specs.Prelude.{IsSome}
use Rattle.key_store.specs.declared.layout.Standing.{Standing}
use Rattle.key_store.specs.declared.layout.KeyContent.{KeyContent}
use Rattle.crash_disk.specs.Disk.{Every, LeavesOf, LeavesOnly}
use Rattle.key_store.specs.Crashes.{IsMidway, IsPaired, Keeps, KeepsFront}
use Rattle.key_store.specs.History.{Handed, IsCall, IsKept, IsRaised, raised_to}
use Rattle.key_store.specs.KeyFiles.{IsAtRest, key_read}
use Rattle.key_store.specs.Store.{begun_by, handed_when}
use Rattle.crash_disk.specs.declared.disk.DiskAnswer.{DiskAnswer}
use Rattle.crash_disk.specs.declared.disk.DiskAnswer.TheVariants.{Done, Failed}
use Rattle.key_store.proofs.Begun.{keeps_itself, rest_keeps}
use Rattle.crash_disk.proofs.Moments.{started}

-- what is said where a file is told
pub if_told : {X : Type 0} (o : Option (List ℕ)) → ((file : List ℕ) → o ≡ Some file → X) → IfSome o (λ _. X)
if_told None h = tt
if_told (Some file) h = h file refl

pub told_some : {X : Type 0} (o : Option (List ℕ)) → IsSome o → IfSome o (λ _. X) → X
told_some None some h = absurd (cc)
told_some (Some file) some h = h

pub is_told : (o : Option (List ℕ)) (file : List ℕ) → o ≡ Some file → IsSome o
is_told o file e = subst IsSome (sym e) refl

-- a key file that stands for more
lower : (least : KeyContent) (stands : Standing) (file : List ℕ) → least.kept.round ≤ stands.round → least.kept.next ≤ stands.next
    → Keeps record least { kept = stands } file → Keeps least file
lower least stands file round next keeps = record {
  stands = keeps.stands;
  read = keeps.read;
  round = omega (arith, round, keeps.round);
  next = omega (arith, next, keeps.next);
  paired = keeps.paired;
}

-- what a key file says that keeps `least`
pub record Says (least content : KeyContent) : Type 0 where
  pub same : content ≡ record least { kept = content.kept }
  pub round : least.kept.round ≤ content.kept.round
  pub next : least.kept.next ≤ content.kept.next

says : (least content : KeyContent) (file : List ℕ) → Keeps least file → key_read file ≡ Ok content → Says least content
says least content file keeps read =
    let e : ◌≡◌ {A = Result KeyContent ℕ} (Ok content) (Ok record least { kept = keeps.stands }) = sym read ∙ keeps.read in
    let same : content ≡ record least { kept = keeps.stands } = cc in
    subst (Says least) (sym same) record { same = refl; round = keeps.round; next = keeps.next }

lowered : (least content : KeyContent) (file : List ℕ) → Says least content → Keeps content file → Keeps least file
lowered least content file says keeps =
    lower least content.kept file says.round says.next (subst (λ (c : KeyContent). Keeps c file) says.same keeps)

module _ {D : Type 0} (told : D → Option (List ℕ)) (may_leave : D → List ℕ → Type 0) (moment : D → ℕ) (left_since : D → ℕ → List ℕ → Type 0)
    (read_is_image : (disk : D) → IfSome (told disk) (may_leave disk))
    (counts_now : (disk : D) (start : ℕ) (image : List ℕ) → start ≤ moment disk → may_leave disk image → left_since disk start image)
    (only_now : (disk : D) (image : List ℕ) → left_since disk (moment disk) image → may_leave disk image) where
  -- calls that bring no image that was not there
  pub quiet_call : (old new : D) → LeavesOnly moment left_since old new (may_leave old) → IsCall may_leave moment left_since old new None
  quiet_call old new run = λ least keeps. record {
    moments = λ image left. keeps image (run.each image left);
    now = λ image may. keeps image (run.each image (counts_now new (moment old) image run.later may));
    hands = tt;
  }

  pub still_call : (disk : D) → IfSome (told disk) (λ _. IsSome (told disk) × IsCall may_leave moment left_since disk disk None)
  still_call disk =
      if_told (told disk) (λ file e. (
        is_told (told disk) file e,
        quiet_call disk disk (started may_leave moment left_since only_now disk (may_leave disk) (λ image left. left)),
      ))

  -- what the image of a disk at rest says, where every image keeps `least`
  rest_says : (disk : D) (image file : List ℕ) (content least : KeyContent) → told disk ≡ Some file
      → IsAtRest (told disk) (may_leave disk) image
      → Every (may_leave disk) (KeepsFront least) → Keeps least image
  rest_says disk image file content least e rest keeps =
      let here : may_leave disk file = subst (λ (o : Option (List ℕ)). IfSome o (may_leave disk)) e (read_is_image disk) in
      let at_rest : IsAtRest (Some file) (may_leave disk) image = subst (λ (o : Option (List ℕ)). IsAtRest o (may_leave disk) image) e rest
      in
      subst (Keeps least) at_rest.0 (keeps file here)

  -- a raise, whether it was Done or failed
  pub raise_keeps : (old new : D) (image file : List ℕ) (at : ℕ) (content least : KeyContent) (handed : Option Handed)
      → told old ≡ Some file
      → IsAtRest (told old) (may_leave old) image → key_read image ≡ Ok content
      → (IsPaired image → LeavesOf moment left_since (told old) old new (IsMidway content at)) → Every (may_leave old) (KeepsFront least)
      → (IsPaired image → Says least content → IfSome handed (λ h. IsRaised least h (may_leave new)))
      → IsKept may_leave moment left_since old new handed least
  raise_keeps old new image file at content least handed e rest read run keeps hands =
      let kept = rest_says old image file content least e rest keeps in
      let said = says least content image kept read in
      let leaves : LeavesOnly moment left_since old new (IsMidway content at file) =
      subst (λ (o : Option (List ℕ)). LeavesOf moment left_since o old new (IsMidway content at)) e (run kept.paired) in
      record {
        moments = λ left since. lowered least content (take 128 left) said (leaves.each left since).keeps;
        now = λ left may. lowered least content (take 128 left) said
            (leaves.each left (counts_now new (moment old) left leaves.later may)).keeps;
        hands = hands kept.paired said;
      }

  -- what was handed out behind a raise
  pub raise_hands : (new : D) (now : List ℕ) (content least : KeyContent) (h : Handed) (round n : ℕ) → IsSome (told new)
      → IsAtRest (told new) (may_leave new) now
      → key_read now ≡ Ok record content { kept = record { round = round; next = content.kept.next + n } } → IsPaired now
      → content.kept.round < round
      → h ≡ record { round = round; first = content.kept.next; leaves = n } → Says least content → IsRaised least h (may_leave new)
  raise_hands new now content least h round n some rest read paired later is said =
      subst (λ (h : Handed). IsRaised least h (may_leave new)) (sym is) record {
        later = omega (arith, said.round, later);
        behind = said.next;
        kept = subst (λ (c : KeyContent). Every (may_leave new) (KeepsFront c)) (ap (λ (c : KeyContent). raised_to c raised) said.same)
            (told_some (told new) some rests);
      }
    where
      raised : Handed
      raised = record { round = round; first = content.kept.next; leaves = n }

      rests : IfSome (told new) (λ _. Every (may_leave new) (KeepsFront (raised_to content raised)))
      rests = rest_keeps (told new) (may_leave new) now (raised_to content raised) rest
          (keeps_itself (raised_to content raised) now read paired)

  -- a raise that is answered
  pub raise_used : (old new : D) (image now : List ℕ) (at : ℕ) (content : KeyContent) (round n : ℕ) (answer : DiskAnswer)
      → IsAtRest (told old) (may_leave old) image → key_read image ≡ Ok content → content.kept.round < round
      → (IsSome (told old) → IsSome (told new))
      → (IsPaired image → LeavesOf moment left_since (told old) old new (IsMidway content at))
      → (answer ≡ Done → IsAtRest (told new) (may_leave new) now) → (answer ≡ Done → key_read now ≡ Ok (begun_by content round n))
      → (answer ≡ Done → IsPaired image → IsPaired now)
      → IfSome (told old) (λ _. IsSome (told new) × IsCall may_leave moment left_since old new (handed_when answer content round n))
  raise_used old new image now at content round n answer rest read later still run rests says pairs =
      if_told (told old) (λ file e. (
        still (is_told (told old) file e),
        λ least keeps. raise_keeps old new image file at content least (handed_when answer content round n) e rest read run keeps
            (by_answer least (still (is_told (told old) file e)) answer refl),
      ))
    where
      by_answer : (least : KeyContent) → IsSome (told new) → (given : DiskAnswer) → answer ≡ given → IsPaired image → Says least content
          → IfSome (handed_when given content round n) (λ h. IsRaised least h (may_leave new))
      by_answer least some Done is paired said =
          raise_hands new now content least record { round = round; first = content.kept.next; leaves = n } round n some
          (rests is) (says is) (pairs is paired) later refl said
      by_answer least some Failed is paired said = tt
