-- The frame of a post.
use Rattle.std.proofs.Common.{◌≡◌, ℕ, ◌+◌, ◌<◌, ◌≤◌, ◌^◌, List, [], ◌∷◌, ◌++◌, length, take, drop, Option, None, Result, Ok, Err, Vec, Global, refl, sym, ap, subst, ◌∙◌, arith, append_assoc, length-append}
use Rattle.std.specs.Prelude.{nat_le, IfOk}
use Rattle.std.specs.Int.{w32, from_be_bytes, to_be_bytes}
use Rattle.std.proofs.lemmas.Bool.{leb-true, le-leb}
use Rattle.std.proofs.lemmas.List.{length-take, length-drop, take-append-drop, take_at, drop_at, drop-drop}
use Rattle.std.proofs.lemmas.Nat.{be_bytes_4, from_be_bytes-to_be_bytes_4}
use Rattle.phase_message.specs.declared.post.Post.{Post}
use Rattle.phase_message.specs.declared.post.TheConstants.{LEAST_CONTENT, POST_LIMIT}
use Rattle.phase_message.specs.Post.{post_spelling}
use Rattle.wire_core.proofs.AnswerLemmas.{first_some-none, first_some-none_parts}
use Rattle.wire_core.specs.Bytes.{IsBytes}
use Rattle.wire_core.proofs.ByteLists.{IsBytes-back, IsBytes-take}
use Rattle.wire_core.specs.Places.{word_at, part}
use Rattle.wire_core.specs.Answers.{Gives, fault_unless, value_unless}
use Rattle.signed_post.specs.declared.post.ReadRefusal.{ReadRefusal}
use Rattle.signed_post.specs.Frame.{fault_of_refusal, FitsFrame, frame_fault, frame_of, spelled_post}
use Rattle.wire_core.proofs.AnswerLemmas.{fault_unless-true, fault_unless-holds, value_unless-ok}

-- what a frame without a fault says of the lengths
record IsFramed (bytes : List ℕ) : Type 0 where
  most : length bytes ≤ POST_LIMIT
  head : 4 ≤ length bytes
  least : LEAST_CONTENT ≤ word_at bytes 0
  whole : 4 + word_at bytes 0 ≤ length bytes

framed-parts : (bytes : List ℕ) → frame_fault bytes ≡ None → IsFramed bytes
framed-parts bytes e =
    let o1 = fault_unless (nat_le (length bytes) POST_LIMIT) 0 in
    let o2 = fault_unless (nat_le 4 (length bytes)) (length bytes) in
    let o3 = fault_unless (nat_le LEAST_CONTENT (word_at bytes 0)) 0 in
    let o4 = fault_unless (nat_le (4 + word_at bytes 0) (length bytes)) (length bytes) in
    let p1 = first_some-none_parts o1 (o2 ∷ o3 ∷ o4 ∷ []) e in
    let p2 = first_some-none_parts o2 (o3 ∷ o4 ∷ []) p1.1 in
    let p3 = first_some-none_parts o3 (o4 ∷ []) p2.1 in
    let p4 = first_some-none_parts o4 [] p3.1 in
    record {
      most = leb-true _ _ (fault_unless-holds (nat_le (length bytes) POST_LIMIT) 0 p1.0);
      head = leb-true _ _ (fault_unless-holds (nat_le 4 (length bytes)) (length bytes) p2.0);
      least = leb-true _ _ (fault_unless-holds (nat_le LEAST_CONTENT (word_at bytes 0)) 0 p3.0);
      whole = leb-true _ _ (fault_unless-holds (nat_le (4 + word_at bytes 0) (length bytes)) (length bytes) p4.0);
    }

signed-fits : (bytes : List ℕ) → IsFramed bytes → FitsFrame (spelled_post bytes)
signed-fits bytes f =
    let n = word_at bytes 0 in
    let back = length-drop 4 bytes in
    let content : length (take n (drop 4 bytes)) ≡ n = omega (arith, length-take n (drop 4 bytes), f.whole, f.head) in
    let signature : 4 + n + length (drop (4 + n) bytes) ≡ length bytes = omega (arith, length-drop (4 + n) bytes, f.whole) in
    record { least = omega (arith, f.least, content); most = omega (arith, f.most, content, signature) }

-- what is framed fits a frame
pub framed-fits : (bytes : List ℕ) (post : Post) → frame_of bytes ≡ Ok post → FitsFrame post
unfolding frame_of
framed-fits bytes post e =
    let parts = value_unless-ok (frame_fault bytes) (spelled_post bytes) post e in
    subst (λ (p : Post). FitsFrame p) parts.1 (signed-fits bytes (framed-parts bytes parts.0))

signed-spelled : (bytes : List ℕ) → IsBytes bytes → IsFramed bytes → bytes ≡ post_spelling (spelled_post bytes)
unfolding word_at part
signed-spelled bytes fits f =
    let n = word_at bytes 0 in
    let back = length-drop 4 bytes in
    let long : length (take n (drop 4 bytes)) ≡ n = omega (arith, length-take n (drop 4 bytes), f.whole, f.head) in
    let four : length (take 4 bytes) ≡ 4 = omega (arith, length-take 4 bytes, f.head) in
    let head : to_be_bytes w32 n ≡ take 4 bytes = be_bytes_4 (take 4 bytes) n four (IsBytes-take 4 bytes fits) refl in
    sym (take-append-drop 4 bytes)
    ∙ ap (λ (x : List ℕ). x ++ drop 4 bytes) (sym head)
    ∙ ap (λ (m : ℕ). to_be_bytes w32 m ++ drop 4 bytes) (sym long)
    ∙ ap (λ (x : List ℕ). to_be_bytes w32 (length (take n (drop 4 bytes))) ++ x) (sym (take-append-drop n (drop 4 bytes)))
    ∙ ap (λ (x : List ℕ). to_be_bytes w32 (length (take n (drop 4 bytes))) ++ (take n (drop 4 bytes) ++ x)) (drop-drop n 4 bytes)
    ∙ sym (append_assoc (to_be_bytes w32 (length (take n (drop 4 bytes)))) (take n (drop 4 bytes)) (drop (4 + n) bytes))

-- what is framed fits a frame and is spelled so
pub framed-found : (bytes : List ℕ) (post : Post) → IsBytes bytes → frame_of bytes ≡ Ok post → FitsFrame post × (bytes ≡ post_spelling post)
unfolding frame_of
framed-found bytes post fits e =
    let parts = value_unless-ok (frame_fault bytes) (spelled_post bytes) post e in
    let f = framed-parts bytes parts.0 in
    subst (λ (p : Post). FitsFrame p × (bytes ≡ post_spelling p)) parts.1 (signed-fits bytes f, signed-spelled bytes fits f)

-- the signature of what is framed is bytes
pub framed-bytes : (bytes : List ℕ) (post : Post) → IsBytes bytes → frame_of bytes ≡ Ok post → IsBytes post.signature
framed-bytes bytes post fits e =
    let spelled = subst (λ (x : List ℕ). IsBytes x) (framed-found bytes post fits e).1 fits in
    IsBytes-back (to_be_bytes w32 (length post.content) ++ post.content) post.signature spelled

-- what fits a frame is framed where it is spelled
pub framed-again : (post : Post) → FitsFrame post → frame_of (post_spelling post) ≡ Ok post
unfolding frame_of word_at part
framed-again post fits =
    let c = post.content in
    let s = post.signature in
    let n : ℕ = length c in
    let head = to_be_bytes w32 n in
    let bytes = post_spelling post in
    let small : n < 2 ^ 32 = omega (arith, fits.most) in
    let grouped : bytes ≡ head ++ (c ++ s) = append_assoc head c s in
    let long : length bytes ≡ 4 + (n + length s) = omega (arith, ap length grouped, length-append head (c ++ s), length-append c s) in
    let front : take 4 bytes ≡ head = ap (take 4) grouped ∙ take_at head (c ++ s) 4 refl in
    let back : drop 4 bytes ≡ c ++ s = ap (drop 4) grouped ∙ drop_at head (c ++ s) 4 refl in
    let word : word_at bytes 0 ≡ n = ap (from_be_bytes w32) front ∙ from_be_bytes-to_be_bytes_4 n small in
    let content : take (word_at bytes 0) (drop 4 bytes) ≡ c = ap (λ (m : ℕ). take m (drop 4 bytes)) word ∙ ap (take n) back
    ∙ take_at c s n refl in
    let signature : drop (4 + word_at bytes 0) bytes ≡ s = ap (λ (m : ℕ). drop (4 + m) bytes) word ∙ sym (drop-drop n 4 bytes)
    ∙ ap (drop n) back ∙ drop_at c s n refl in
    let o1 = fault_unless (nat_le (length bytes) POST_LIMIT) 0 in
    let o2 = fault_unless (nat_le 4 (length bytes)) (length bytes) in
    let o3 = fault_unless (nat_le LEAST_CONTENT (word_at bytes 0)) 0 in
    let o4 = fault_unless (nat_le (4 + word_at bytes 0) (length bytes)) (length bytes) in
    let none : frame_fault bytes ≡ None =
    first_some-none o1 (o2 ∷ o3 ∷ o4 ∷ []) (fault_unless-true (nat_le (length bytes) POST_LIMIT) 0
    (le-leb _ _ (omega (arith, fits.most, long))))
    ∙ first_some-none o2 (o3 ∷ o4 ∷ []) (fault_unless-true (nat_le 4 (length bytes)) (length bytes) (le-leb _ _ (omega (arith, long))))
    ∙ first_some-none o3 (o4 ∷ []) (fault_unless-true (nat_le LEAST_CONTENT (word_at bytes 0)) 0
    (le-leb _ _ (omega (arith, fits.least, word))))
    ∙ first_some-none o4 [] (fault_unless-true (nat_le (4 + word_at bytes 0) (length bytes)) (length bytes)
    (le-leb _ _ (omega (arith, long, word)))) in
    ap (λ (o : Option ℕ). value_unless o (spelled_post bytes)) none
    ∙ ap (λ (x : List ℕ). ok x (drop (4 + word_at bytes 0) bytes)) content
    ∙ ap (λ (x : List ℕ). ok c x) signature
  where
    ok : List ℕ → List ℕ → Result Post ℕ
    ok content signature = Ok (record { content = content; signature = signature })

-- what a reader returned fits a frame and is spelled so
pub read-found : (bytes : List ℕ) (result : Result Post ReadRefusal) → IsBytes bytes
    → Gives fault_of_refusal (λ post. post) result (frame_of bytes) → IfOk result (λ post. FitsFrame post × (bytes ≡ post_spelling post))
read-found bytes (Ok post) fits given = framed-found bytes post fits given
read-found bytes (Err e) fits given = tt

-- and what fits a frame and is spelled so is what it returned
pub read-only : (bytes : List ℕ) (result : Result Post ReadRefusal) (post : Post)
    → Gives fault_of_refusal (λ post. post) result (frame_of bytes) → FitsFrame post → bytes ≡ post_spelling post
    → Gives fault_of_refusal (λ post. post) result (Ok post)
read-only bytes result post given fits e =
    subst (λ (read : Result Post ℕ). Gives fault_of_refusal (λ post. post) result read) (ap frame_of e ∙ framed-again post fits) given

-- what a writer returned is read back
pub written-back : {E : Type 0} (post : Post) (result : Result (Vec ℕ Global) E) → IfOk result (λ bytes. bytes.items ≡ post_spelling post)
    → IfOk result (λ bytes. FitsFrame post → frame_of bytes.items ≡ Ok post)
written-back post (Ok bytes) is = λ fits. ap frame_of is ∙ framed-again post fits
written-back post (Err e) is = tt
