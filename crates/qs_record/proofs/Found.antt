-- Where a front of what is left spells a value, its reading function finds the value, and the place
-- behind that front.
use Rattle.std.proofs.Common.{◌≡◌, ◌+◌, ◌≤◌, ℕ, List, [], ◌++◌, length, drop, Bool, true, false, nat_lt, cond, Result, Ok, Err, refl, ap, ◌∙◌, sym, append_assoc, length-append, arith}
use Rattle.std.proofs.Math.Seq.{drop-append_seam}
use Rattle.std.proofs.lemmas.Bool.{le-ltb}
use Rattle.std.proofs.lemmas.List.{drop-drop}
use Rattle.std.specs.Int.{w8, w32}
use Rattle.qs_codec.specs.declared.fault.CodecFault.{CodecFault}
use Rattle.qs_codec.specs.Grammar.{Byte, Word, Number, Text, Spells}
use Rattle.qs_codec.specs.Reading.{Reading, left_of, reading_after, reading_at, integer_at, number_at, text_at}
use Rattle.qs_codec.proofs.GrammarLemmas.{same_front}
use Rattle.qs_codec.proofs.ReadingLemmas.{answered, next_byte, next_word, next_number, next_text}
use Rattle.qs_record.specs.Grammar.{Joined, SpellsAll}
use Rattle.qs_record.specs.Reading.{then_at, byte_where}
use Rattle.qs_record.specs.Writing.{Adds}

pub record IsFoundBy {A : Type 0} (read : Reading → Result (A × Reading) CodecFault) (P : List ℕ → Type 0) (x : A) : Type 0 where
  pub found : (r : Reading) (part rest : List ℕ) → P part → left_of r ≡ part ++ rest → read r ≡ Ok (x, reading_after r (length part))

-- ---- fields

-- the answer, where the part has that length
as_long : {A : Type 0} (answer : Result (A × Reading) CodecFault) (x : A) (r : Reading) (n : ℕ) (part : List ℕ) → length part ≡ n → answer ≡ Ok (x, reading_after r n)
    → answer ≡ Ok (x, reading_after r (length part))
as_long answer x r n part long e = e ∙ ap (λ (k : ℕ). Ok (x, reading_after r k)) (sym long)

pub byte_found : (n : ℕ) → IsFoundBy (integer_at w8) (Spells (Byte n)) n
byte_found n = record {
  found = λ r part rest p whole. as_long (integer_at w8 r) n r 1 part p.wide (next_byte n r (record { part = part; rest = rest; spelled = p; whole = whole }));
}

pub word_found : (n : ℕ) → IsFoundBy (integer_at w32) (Spells (Word n)) n
word_found n = record {
  found = λ r part rest p whole. as_long (integer_at w32 r) n r 4 part p.wide (next_word n r (record { part = part; rest = rest; spelled = p; whole = whole }));
}

pub number_found : (n : ℕ) → IsFoundBy number_at (Spells (Number n)) n
number_found n = record {
  found = λ r part rest p whole. as_long (number_at r) n r 8 part p.0.wide (next_number n r (record { part = part; rest = rest; spelled = p; whole = whole }));
}

pub text_found : (max : ℕ) (text : List ℕ) → length text ≤ max → IsFoundBy (text_at max) (Spells (Text text)) text
text_found max text fits = record {
  found = λ r part rest p whole.
      let long : length part ≡ 4 + length text = rw p.whole (omega (arith, length-append p.head text, p.counts.wide)) in
      as_long (text_at max r) text r (4 + length text) part long (next_text max text r fits (record { part = part; rest = rest; spelled = p; whole = whole }));
}

pub where_found : (test : ℕ → Bool) (n : ℕ) → test n ≡ true → IsFoundBy (byte_where test) (Spells (Byte n)) n
unfolding byte_where
where_found test n is = record {
  found = λ r part rest p whole. let byte = (byte_found n).found r part rest p whole in rw (byte, is) refl;
}

-- ---- one behind the other

pub last_found : {A : Type 0} (x : A) → IsFoundBy (λ r. Ok (x, r)) (SpellsAll []) x
last_found x = record {
  found = λ r part rest p whole.
      let here : r.at ≡ r.at + length part = rw p (omega arith) in
      ap (λ (at : ℕ). Ok (x, record { bytes = r.bytes; at = at })) here;
}

-- what is left behind a front
left_behind : (r : Reading) (front others : List ℕ) → left_of r ≡ front ++ others → left_of (reading_after r (length front)) ≡ others
left_behind r front others whole =
    sym (drop-drop (length front) r.at r.bytes) ∙ ap (drop (length front)) whole ∙ drop-append_seam front others

pub joined_found : {A B : Type 0} (read : Reading → Result (A × Reading) CodecFault) (next : Reading → A → Reading → Result (B × Reading) CodecFault)
    (P Q : List ℕ → Type 0) (x : A) (y : B) → IsFoundBy read P x → ((r : Reading) → IsFoundBy (next r x) Q y)
    → IsFoundBy (λ r. then_at (read r) (next r)) (Joined P Q) y
joined_found {A} {B} read next P Q x y first second = record {
  found = λ r part rest j whole.
      let split : left_of r ≡ j.front ++ (j.back ++ rest) = whole ∙ ap (λ (xs : List ℕ). xs ++ rest) j.whole ∙ append_assoc j.front j.back rest in
      let one : read r ≡ Ok (x, reading_after r (length j.front)) = first.found r j.front (j.back ++ rest) j.first split in
      let behind : left_of (reading_after r (length j.front)) ≡ j.back ++ rest = left_behind r j.front (j.back ++ rest) split in
      let two = (second r).found (reading_after r (length j.front)) j.back rest j.second behind in
      let place : r.at + length j.front + length j.back ≡ r.at + length part = rw j.whole (omega (arith, length-append j.front j.back)) in
      ap (λ (answer : Result (A × Reading) CodecFault). then_at answer (next r)) one ∙ two ∙ ap (λ (at : ℕ). Ok (y, record { bytes = r.bytes; at = at })) place;
}

pub found_as : {A : Type 0} (read : Reading → Result (A × Reading) CodecFault) (P Q : List ℕ → Type 0) (x : A) → ((part : List ℕ) → Q part → P part)
    → IsFoundBy read P x → IsFoundBy read Q x
found_as read P Q x as_well f = record { found = λ r part rest q whole. f.found r part rest (as_well part q) whole }

-- what is made of a value that is found last
pub found_then : {A B : Type 0} (read : Reading → Result (A × Reading) CodecFault) (P : List ℕ → Type 0) (x : A) (make : A → B) → IsFoundBy read P x
    → IsFoundBy (λ r. then_at (read r) (λ y after. Ok (make y, after))) P (make x)
found_then {A} read P x make f = record {
  found = λ r part rest p whole.
      ap (λ (answer : Result (A × Reading) CodecFault). then_at answer (λ y after. Ok (make y, after))) (f.found r part rest p whole);
}

-- a count that is not above the bytes that are left
pub counted_found : {A : Type 0} (read : Reading → Result (A × Reading) CodecFault) (P : List ℕ → Type 0) (x : A) (count : ℕ) (fault : CodecFault)
    → ((part : List ℕ) → P part → count ≤ length part) → IsFoundBy read P x
    → IsFoundBy (λ r. cond (nat_lt (length (left_of r)) count) (Err fault) (read r)) P x
counted_found read P x count fault long f = record {
  found = λ r part rest p whole.
      let enough : nat_lt (length (left_of r)) count ≡ false = le-ltb _ _ (rw whole (omega (arith, length-append part rest, long part p))) in
      rw enough (f.found r part rest p whole);
}

-- ---- what follows of each value that is found

-- fronts of one list that spell two values spell one
pub one_front : {A : Type 0} (read : Reading → Result (A × Reading) CodecFault) (P Q : List ℕ → Type 0) (x y : A) → IsFoundBy read P x → IsFoundBy read Q y
    → (a b s t : List ℕ) → P a → Q b → a ++ s ≡ b ++ t → (x ≡ y) × (a ≡ b)
one_front read P Q x y f g a b s t p q e =
    let r : Reading = reading_at (a ++ s) 0 in
    let one = f.found r a s p refl in
    let two = g.found r b t q e in
    let is = answered x y (reading_after r (length a)) (reading_after r (length b)) (sym one ∙ two) in
    let place : 0 + length a ≡ 0 + length b = ap (λ (q : Reading). q.at) is.1 in
    (is.0, same_front a b s t (omega (arith, place)) e)

-- what was added is found again, whatever follows
pub found_back : {A : Type 0} (read : Reading → Result (A × Reading) CodecFault) (P : List ℕ → Type 0) (x : A) → IsFoundBy read P x
    → (old new rest : List ℕ) → Adds P old new → read (reading_at (new ++ rest) (length old)) ≡ Ok (x, reading_at (new ++ rest) (length new))
found_back read P x f old new rest wrote =
    let r : Reading = reading_at (new ++ rest) (length old) in
    let whole : left_of r ≡ wrote.part ++ rest =
    ap (λ (xs : List ℕ). drop (length old) (xs ++ rest)) wrote.added ∙ ap (drop (length old)) (append_assoc old wrote.part rest) ∙ drop-append_seam old (wrote.part ++ rest) in
    let place : length old + length wrote.part ≡ length new = rw wrote.added (omega (arith, length-append old wrote.part)) in
    f.found r wrote.part rest wrote.spelled whole ∙ ap (λ (at : ℕ). Ok (x, reading_at (new ++ rest) at)) place
