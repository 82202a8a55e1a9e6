-- A closing post that embeds another content than was kept for a slot convicts the sender of the slot.
use Rattle.std.proofs.Common.{arith, Contains, List, Ok, ap, inl, inr, length, subst, sym, true, w32, ◌≡◌, ◌∙◌, ◌∷◌, ◌++◌, ◌<◌, ◌+◌, [], ℕ}
use Rattle.phase_message.specs.declared.content.Body.TheVariants.{Keys, Submit, Shuffled, Abort, Go, Reveal, Dispute, Pads, Check, Confirm, Differ}
use Rattle.round_spec.specs.Verdict.{closing_content, content_of_post, is_closing, is_read_justified}
use Rattle.accountability.specs.Evidence.{AcceptedFor, IsAccepted, IsKeptEnd}
use Rattle.std.specs.List.{AllByRecursion, AllZip, flat_map}
use Rattle.phase_message.specs.declared.content.Body.{Body}
use Rattle.phase_message.specs.declared.content.Content.{Content}
use Rattle.wire_core.specs.Bytes.{IsBytes}
use Rattle.wire_core.proofs.ByteLists.{IsBytes-back, IsBytes-front}
use Rattle.round_spec.specs.Cases.{IsEquivocation, IsMemberOf}
use Rattle.round_spec.specs.Justified.{IsPostOf}
use Rattle.phase_message.specs.declared.post.Post.{Post}
use Rattle.round_spec.specs.Runs.{Run}
use Rattle.phase_message.specs.Shape.{Shape}
use Rattle.phase_message.specs.declared.stage.Slot.{Slot}
use Rattle.round_spec.proofs.SealedBytes.{all-places}
use Rattle.go_nogo.proofs.EmbeddedSlots.{assent-slots, objection-slots}
use Rattle.accountability.proofs.Kept.{body-bytes, content-is, content-stage, end-past, file-says, kept-end, kept-in, post-in, sent-in, spelled-few, transcript-same}
use Rattle.phase_message.specs.Grammar.{body_text, prefixed}
use Rattle.std.proofs.lemmas.Bool.{cases_Bool}
use Rattle.round_spec.specs.Course.{closing_of}
use Rattle.round_spec.proofs.Contained.{contains-cases, contains-here, contains-later, contains-nothing}
use Rattle.round_spec.specs.Embedded.{embedded_pairs, is_content_justified}
use Rattle.signed_post.specs.Frame.{frame_of}
use Rattle.signed_post.proofs.Frames.{framed-again}
use Rattle.go_nogo.specs.Closing.{is_assent, posts_embedded, slots_embedded}
use Rattle.phase_message.specs.Stages.{is_slot}
use Rattle.round_spec.proofs.Justified.{justified_exactly}
use Rattle.phase_message.specs.Post.{post_spelling}
use Rattle.signed_post.proofs.Lengths.{posts_are_short}
use Rattle.round_spec.specs.Say.{shape_in}
use Rattle.std.specs.Int.{to_be_bytes}
use Rattle.accountability.proofs.OnePost.{two-evidence, two-shown}
use Rattle.std.specs.Prelude.{zip}

-- ---- lists

all-zip-at : {A B : Type 0} (P : A → B → Type 0) (xs : List A) (ys : List B) (x : A) → AllZip P xs ys → Contains xs x → (y : B) × P x y
all-zip-at P [] ys x all listed = absurd (contains-nothing x listed)
all-zip-at P (z ∷ xs) [] x all listed = absurd all
all-zip-at {A} {B} P (z ∷ xs) (y ∷ ys) x all listed = elim (contains-cases z xs x listed) [
  | inl here ↦ (y, subst (λ (a : A). P a y) here all.0)
  | inr later ↦ all-zip-at P xs ys x all.1 later
]

zip-first : {A B : Type 0} (xs : List A) (ys : List B) (pair : A × B) → Contains (zip xs ys) pair → Contains xs pair.0
zip-first [] ys pair listed = absurd (contains-nothing pair listed)
zip-first (x ∷ xs) [] pair listed = absurd (contains-nothing pair listed)
zip-first {A} {B} (x ∷ xs) (y ∷ ys) pair listed = elim (contains-cases (x, y) (zip xs ys) pair listed) [
  | inl here ↦ subst (λ (p : A × B). Contains (x ∷ xs) p.0) here (contains-here x xs)
  | inr later ↦ contains-later x xs pair.0 (zip-first xs ys pair later)
]

-- ---- embedded strings are bytes

bytes-prefixed : (items : List (List ℕ)) → IsBytes (flat_map prefixed items) → AllByRecursion IsBytes items
bytes-prefixed [] all = tt
bytes-prefixed (x ∷ xs) all = (
  IsBytes-back (to_be_bytes w32 (length x)) x (IsBytes-front (prefixed x) (flat_map prefixed xs) all),
  bytes-prefixed xs (IsBytes-back (prefixed x) (flat_map prefixed xs) all),
)

pub embedded-bytes : (body : Body) → IsBytes (body_text body) → AllByRecursion IsBytes (posts_embedded body)
embedded-bytes (Reveal votes seed) is = bytes-prefixed votes (IsBytes-front (flat_map prefixed votes) seed is)
embedded-bytes (Dispute posts seed opening) is = bytes-prefixed posts (IsBytes-front (flat_map prefixed posts) (seed ++ opening) is)
embedded-bytes (Confirm votes) is = bytes-prefixed votes is
embedded-bytes (Differ posts) is = bytes-prefixed posts is
embedded-bytes (Keys keys) is = tt
embedded-bytes (Submit ciphertext) is = tt
embedded-bytes (Shuffled list) is = tt
embedded-bytes Abort is = tt
embedded-bytes (Go vote) is = tt
embedded-bytes (Pads pads) is = tt
embedded-bytes (Check vote) is = tt

-- ---- what is embedded is of earlier slots

earlier-slot : (shape : Shape) (content : Content) (slot : Slot) → is_closing shape content.header.stage ≡ true
    → Contains (slots_embedded shape content) slot
    → (is_slot shape slot.stage slot.sender ≡ true) × (slot.stage < content.header.stage)
earlier-slot shape content slot closing listed = elim (cases_Bool (is_assent content.body)) [
  | inl assents ↦ (let at = (assent-slots shape content slot closing assents).0 listed in let next = at.1 in (at.0, omega (arith, next)))
  | inr objects ↦ (objection-slots shape content slot objects).0 listed
]

-- a member's justified closing content, and the post of a slot that it embeds
pub record Embeds (run : Run) (stage : ℕ) (posts : List Post) (content : Content) (pair : Slot × List ℕ) : Type 0 where
  pub post : Post
  pub file : IsPostOf run.config.roster run.config.round pair.0 pair.1 post
  pub speaks : is_slot (shape_in run.config) pair.0.stage pair.0.sender ≡ true
  pub earlier : pair.0.stage < stage

pub embeds-there : (run : Run) (stage member : ℕ) (posts : List Post) (content : Content) (pair : Slot × List ℕ) → IsKeptEnd run stage posts
    → IsMemberOf (closing_of run.config posts stage) member → closing_content (closing_of run.config posts stage) member ≡ Ok content
    → is_content_justified run.config.roster run.config.round content ≡ true → Contains (embedded_pairs run.config.roster content) pair
    → Embeds run stage posts content pair
embeds-there run stage member posts content pair end is reads justified listed =
    let c = run.config in
    let shape = shape_in c in
    let k = kept-end run stage member posts end is in
    let content_is : k.checks.content ≡ content = content-is run stage member posts content k reads in
    let bytes = subst (λ (x : Content). IsBytes (body_text x.body)) content_is (body-bytes run posts stage member k) in
    let stage_is : content.header.stage ≡ stage = ap (λ (x : Content). x.header.stage) (sym content_is)
    ∙ content-stage run posts stage member k in
    let is_justified = (justified_exactly c.roster c.round content
    (all-places IsBytes (posts_embedded content.body) (embedded-bytes content.body bytes))).0 justified in
    let found = all-zip-at (λ (p : Slot × List ℕ) (post : Post). IsPostOf c.roster c.round p.0 p.1 post) (embedded_pairs c.roster content)
    is_justified.posts pair is_justified.embeds listed in
    let closing : is_closing shape content.header.stage ≡ true = ap (is_closing shape) stage_is ∙ end.closing in
    let slot = earlier-slot shape content pair.0 closing (zip-first (slots_embedded shape content) (posts_embedded content.body) pair
    listed) in
    record { post = found.0; file = found.1; speaks = slot.0; earlier = subst (λ (s : ℕ). pair.0.stage < s) stage_is slot.1 }

pub equivocation_accepted : AcceptedFor IsEquivocation
unfolding two-evidence
equivocation_accepted run stage posts t end is =
    let c = run.config in
    let justified : is_content_justified c.roster c.round is.content ≡ true =
    sym (ap (is_read_justified (closing_of run.config posts stage)) is.reads) ∙ is.justified is.member is.is_member in
    let e = embeds-there run stage is.member posts is.content is.pair end is.is_member is.reads justified is.embedded in
    let before = e.earlier in
    let kk = kept-in run (stage + 1) is.pair.0.stage is.pair.0.sender posts (end-past run stage posts end) e.speaks (omega arith) in
    let few = posts_are_short c.roster c.round e.post e.file.content.header e.file.admitted in
    let most = e.file.admitted.frame.most in
    let same : t ≡ two-evidence c.round is.pair.0.sender (post_spelling kk.post) is.pair.1 =
    transcript-same t _ is.verdict_is ∙ ap (λ (bytes : List ℕ). two-evidence c.round is.pair.0.sender bytes is.pair.1)
    (sent-in run posts stage is.pair.0.stage is.pair.0.sender kk) in
    subst (IsAccepted c.roster) (sym same)
    (two-shown c.roster c.round is.pair.0 (post_spelling kk.post) is.pair.1 kk.post.content e.post.content kk.checks.content.header
    e.file.content.header
    end.honest.config.enter.round (spelled-few run posts is.pair.0.stage is.pair.0.sender kk)
    (omega (arith, few, most, ap length e.file.spelled))
    (file-says c (record { stage = is.pair.0.stage; sender = is.pair.0.sender }) kk.post kk.checks)
    (record { signature = e.post.signature; spelled = e.file.spelled; admitted = e.file.admitted })
    kk.checks.named e.file.named
    (λ equal. is.other_content (ap content_of_post (ap frame_of e.file.spelled ∙ framed-again e.post e.file.admitted.frame) ∙ sym equal
    ∙ sym (ap (λ (p : Post). p.content) (post-in run posts stage is.pair.0.stage is.pair.0.sender kk)))))
