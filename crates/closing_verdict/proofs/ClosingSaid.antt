-- What the members said at a closing stage.
use Rattle.std.proofs.Common.{◌≡◌, ℕ, ◌≤◌, true, List, Option, Some, None, Result, Ok, Err, sym, ap, subst, ◌∙◌, arith}
use Rattle.phase_message.specs.declared.content.Content.{Content}
use Rattle.phase_message.specs.declared.content.DecodeRefusal.{DecodeRefusal}
use Rattle.phase_message.specs.declared.content.DecodeRefusal.TheVariants.{Malformed}
use Rattle.phase_message.specs.declared.offence.Offence.{Offence}
use Rattle.phase_message.specs.declared.post.Post.{Post}
use Rattle.phase_message.specs.declared.stage.Slot.{Slot}
use Rattle.phase_message.specs.Grammar.{OfGrammar}
use Rattle.phase_message.specs.Offence.{content_read, fault}
use Rattle.wire_core.specs.Answers.{IsFault}
use Rattle.phase_message.specs.Shape.{Shape}
use Rattle.phase_message.specs.Stages.{is_slot}
use Rattle.phase_message.proofs.Whole.{content-is_read}
use Rattle.stage_log.specs.Table.{kept_in}
use Rattle.go_nogo.specs.Stands.{StandsIn}
use Rattle.round_spec.specs.Verdict.{closing_content, post_in}
use Rattle.closing_verdict.specs.Judgement.{Completed, IsComplete, stage_closed}
use Rattle.closing_verdict.proofs.ClosingPosts.{closed-kept, closing-slot}

-- a member's closing content
pub record IsSaidAt (c : Completed) (member : ℕ) : Type 0 where
  pub content : Content
  pub kept : kept_in c.log (record { stage = c.stage; sender = member }) ≡ Some (post_in (stage_closed c) c.stage member)
  pub reads : content_read c.log.shape (post_in (stage_closed c) c.stage member).content ≡ Ok content
  pub grammar : OfGrammar c.log.shape content
  pub stage_is : content.header.stage ≡ c.stage

pub closing-said : (c : Completed) → IsComplete c → (member : ℕ) → 1 ≤ member → member ≤ c.log.shape.members → IsSaidAt c member
closing-said c is member least most =
    let slot : Slot = record { stage = c.stage; sender = member } in
    let there : is_slot c.log.shape c.stage member ≡ true = closing-slot c.log.shape c.stage member is.closing least most in
    let kept = closed-kept c is slot there (omega arith) in
    let stands : StandsIn c.log.shape slot (post_in (stage_closed c) c.stage member).content = is.stand c.stage member
    (post_in (stage_closed c) c.stage member) kept in
    record {
      content = stands.said;
      kept = kept;
      reads = ap (content_read c.log.shape) stands.spelled ∙ content-is_read c.log.shape stands.said stands.grammar;
      grammar = stands.grammar;
      stage_is = stands.stage_is;
    }

-- its post is there
pub closing-missing : (c : Completed) → IsComplete c → (member : ℕ) → 1 ≤ member → member ≤ c.log.shape.members
    → kept_in c.log (record { stage = c.stage; sender = member }) ≡ None → ⊥
closing-missing c is member least most e =
    never (post_in (stage_closed c) c.stage member) (sym e ∙ (closing-said c is member least most).kept)
  where
    never : (post : Post) → (let none : Option Post = None in none ≡ Some post) → ⊥
    never post e = absurd cc

-- what is read of it
pub closing-read : (c : Completed) (is : IsComplete c) → (member : ℕ) (least : 1 ≤ member) (most : member ≤ c.log.shape.members)
    (shape : Shape) (post : Post) (bytes : List ℕ)
    → Some post ≡ kept_in c.log (record { stage = c.stage; sender = member }) → bytes ≡ post.content → shape ≡ c.log.shape
    → content_read shape bytes ≡ Ok (closing-said c is member least most).content
closing-read c is member least most shape post bytes kept are same =
    let said = closing-said c is member least most in
    let own : post ≡ post_in (stage_closed c) c.stage member = post-same post (post_in (stage_closed c) c.stage member) (kept ∙ said.kept)
    in
    ap (λ (s : Shape). content_read s bytes) same ∙ ap (content_read c.log.shape) (are ∙ ap (λ (p : Post). p.content) own) ∙ said.reads
  where
    post-same : (a b : Post) → (let some : Post → Option Post = λ z. Some z in some a ≡ some b) → a ≡ b
    post-same a b e = cc

pub content-same : (r : Result Content Offence) (a b : Content) → r ≡ Ok a → r ≡ Ok b → a ≡ b
content-same r a b one two = cc

pub said-fault : (refusal : DecodeRefusal) (at rule : ℕ) (r : Result Content Offence) (content : Content) → refusal ≡ Malformed at rule
    → IsFault (fault refusal) r → r ≡ Ok content → ⊥
said-fault refusal at rule r content is faulty reads =
    let told : r ≡ Err (record { at = at; rule = rule }) = subst (λ (x : DecodeRefusal). IsFault (fault x) r) is faulty in
    never r (record { at = at; rule = rule }) content told reads
  where
    never : (r : Result Content Offence) (e : Offence) (content : Content) → r ≡ Err e → r ≡ Ok content → ⊥
    never r e content one two = absurd cc

-- what was read is the member's closing content, of the stage
pub closing-is : (c : Completed) → IsComplete c → (member : ℕ) → 1 ≤ member → member ≤ c.log.shape.members
    → (shape : Shape) (post : Post) (bytes : List ℕ) (content : Content)
    → Some post ≡ kept_in c.log (record { stage = c.stage; sender = member }) → bytes ≡ post.content → shape ≡ c.log.shape
    → content_read shape bytes ≡ Ok content
    → (closing_content (stage_closed c) member ≡ Ok content) × (content.header.stage ≡ c.stage)
closing-is c is member least most shape post bytes content kept are same reads =
    let said = closing-said c is member least most in
    let read = closing-read c is member least most shape post bytes kept are same in
    let own : said.content ≡ content = content-same (content_read shape bytes) said.content content read reads in (
      ap (λ (s : Shape). content_read s (post_in (stage_closed c) c.stage member).content) (sym is.shape) ∙ said.reads
          ∙ ap (λ (x : Content). told x) own,
      ap (λ (x : Content). x.header.stage) (sym own) ∙ said.stage_is,
    )
  where
    told : Content → Result Content Offence
    told content = Ok content
