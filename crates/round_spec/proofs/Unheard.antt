-- Whose posts are missing: of whom no delivered string is the post file of the slot.
use Rattle.std.proofs.Common.{◌≡◌, ◌≢◌, ℕ, true, false, List, [], ◌∷◌, map, Option, Some, None, Result, Ok, ap, sym, ◌∙◌, refl, subst, inl, inr}
use Rattle.std.specs.Prelude.{◌==◌, Contains}
use Rattle.std.proofs.lemmas.Bool.{eq-eqb, eqb-true, false_from_ne_true}
use Rattle.std.proofs.lemmas.List.Elements.{All-contains}
use Rattle.std.proofs.lemmas.Option.{none-some}
use Rattle.wire_core.specs.declared.cursor.Short.{Short}
use Rattle.wire_core.specs.Answers.{first_some}
use Rattle.wire_core.specs.Bytes.{IsBytes}
use Rattle.wire_core.proofs.AnswerLemmas.{first_some-none_parts}
use Rattle.phase_message.specs.declared.header.Header.{Header}
use Rattle.phase_message.specs.declared.post.Post.{Post}
use Rattle.phase_message.specs.declared.stage.Slot.{Slot}
use Rattle.phase_message.specs.Header.{header_of}
use Rattle.phase_message.proofs.Whole.{content-header}
use Rattle.signed_post.specs.Admission.{Admitted}
use Rattle.signed_post.specs.Frame.{frame_of}
use Rattle.signed_post.proofs.Admits.{admit-again}
use Rattle.signed_post.proofs.Frames.{framed-again, framed-found}
use Rattle.round_spec.specs.Embedded.{names_slot, slot_named}
use Rattle.round_spec.specs.Given.{MissingAreUnheard}
use Rattle.round_spec.specs.Justified.{IsPostOf}
use Rattle.round_spec.specs.Result.{first_posts, heard_of, post_given}
use Rattle.round_spec.specs.Say.{Configuration, shape_in}
use Rattle.round_spec.proofs.Contained.{contains-cases, contains-nothing}
use Rattle.round_spec.proofs.Given.{first_posts_delivered}
use Rattle.round_spec.proofs.Rows.{checks-parts}

header-same : (a b : Header) (r : Result Header Short) → r ≡ Ok a → r ≡ Ok b → a ≡ b
header-same a b r e e' = let both = sym e ∙ e' in cc

pub names-self : (header : Header) → names_slot (slot_named header) header ≡ true
names-self header = rw (eq-eqb header.stage header.stage refl, eq-eqb header.sender header.sender refl) refl

-- the post file of a slot of another member gives it a post
pub gives-post : (c : Configuration) (slot : Slot) (bytes : List ℕ) (post : Post) → slot.sender ≢ c.number
    → IsPostOf c.roster c.round slot bytes post → post_given c slot bytes ≡ Some post
unfolding post_given heard_of
gives-post c slot bytes post other is =
    let header : Header = is.content.header in
    let framed : frame_of bytes ≡ Ok post = ap frame_of is.spelled ∙ framed-again post is.admitted.frame in
    let admitted = admit-again c.roster c.round post is.content.header is.admitted in
    let sender : is.content.header.sender ≡ slot.sender = ap (λ (s : Slot). s.sender) is.named in
    let apart : (is.content.header.sender == c.number) ≡ false = false_from_ne_true (is.content.header.sender == c.number)
    (λ same. other (sym sender ∙ eqb-true is.content.header.sender c.number same)) in
    let names : names_slot slot is.content.header ≡ true = subst (λ (s : Slot). names_slot s is.content.header ≡ true) is.named
    (names-self is.content.header) in
    rw (framed, admitted, apart, names, is.reads) refl

pub none-of : {A B : Type 0} (f : A → Option B) (xs : List A) (x : A) → first_some (map f xs) ≡ None → Contains xs x → f x ≡ None
none-of f [] x e there = absurd (contains-nothing x there)
none-of {A} {B} f (y ∷ ys) x e there =
    let parts = first_some-none_parts (f y) (map f ys) e in
    elim (contains-cases y ys x there) [
      | inl here ↦ ap f (sym here) ∙ parts.0
      | inr later ↦ none-of f ys x parts.1 later
    ]

pub missing_are_unheard : MissingAreUnheard
unfolding first_posts
missing_are_unheard c delivered slot all other = (
  λ e bytes post listed is. none-some post (sym (none-of (post_given c slot) delivered bytes e listed)
      ∙ gives-post c slot bytes post other is),
  λ unheard. by_first (first_posts c delivered slot) refl unheard,
)
  where
    by_first : (o : Option Post) → first_posts c delivered slot ≡ o
        → ((bytes : List ℕ) (post : Post) → Contains delivered bytes → IsPostOf c.roster c.round slot bytes post → ⊥)
        → first_posts c delivered slot ≡ None
    by_first None e unheard = e
    by_first (Some post) e unheard =
        let is = first_posts_delivered c delivered slot post all e in
        let parts = checks-parts c.roster c.round post is.checks.content is.checks.checks in
        let headers = header-same is.header is.checks.content.header (header_of post.content) is.admitted.reads
        (content-header (shape_in c) post.content is.checks.content parts.2) in
        absurd (unheard is.bytes post is.listed (record {
          spelled = (framed-found is.bytes post (All-contains IsBytes delivered is.bytes all is.listed) is.spelled).1;
          content = is.checks.content;
          admitted = subst (Admitted c.roster c.round post) headers is.admitted;
          reads = parts.2;
          named = is.checks.named;
        }))
