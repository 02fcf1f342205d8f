-- A read of a field against the grammar.
use Rattle.std.proofs.Common.{◌≡◌, ◌≤◌, ◌+◌, ◌^◌, ℕ, List, ◌∷◌, ◌++◌, length, take, drop, All, Bool, true, false, nat_lt, nat_le, Option, None, Some, Result, Ok, Err, refl, subst, ap, ◌∙◌, sym, append_assoc, arith, cond, not, ◌&&◌, []}
use Rattle.std.proofs.Math.Seq.{take-append_seam}
use Rattle.std.proofs.lemmas.Bool.{le-ltb, ltb-false, lt-ltb, ltb-true, leb-true, le-leb}
use Rattle.std.proofs.lemmas.List.{drop-drop, length-drop, length-take-le, length-append, take-append-drop, take_at, drop_at}
use Rattle.std.proofs.lemmas.List.Elements.{All-from_recursion, recursion_from_All, All-take, All-drop}
use Rattle.std.proofs.lemmas.Iterator.Adapters.{position_from-zero}
use Rattle.std.specs.Prelude.{position}
use Rattle.std.specs.List.{position_from, AllByRecursion}
use Rattle.std.specs.Int.{Width, w8, w32, w64, byte_len, from_be_bytes}
use Rattle.qs_codec.specs.declared.fault.CodecFault.{CodecFault}
use Rattle.qs_codec.specs.declared.fault.CodecFault.TheVariants.{Short, TooLong, BadNumber}
use Rattle.qs_codec.specs.Grammar.{Field, Byte, Word, Long, Number, Text, IsByte, IsBigEndian, Spells}
use Rattle.qs_base.specs.Printable.{IsPrintable}
use Rattle.qs_codec.specs.Reading.{Reading, left_of, reading_after, IsNext, Reads, reading_at, number_ahead, integer_at, number_at, text_ahead, checked_text, text_at, is_unprintable}
use Rattle.qs_codec.proofs.GrammarLemmas.{IsWide, wide8, wide32, wide64}

-- ---- answers

abbrev done : {A : Type 0} → A → Result A CodecFault
done x = Ok x

-- a test that did not fail
passed : {A : Type 0} (b : Bool) (fault : CodecFault) (rest : Result A CodecFault) (y : A) → cond b (Err fault) rest ≡ Ok y → (b ≡ false) × (rest ≡ Ok y)
passed true fault rest y e = absurd cc
passed false fault rest y e = (refl, e)

-- a test that has to pass
held : {A : Type 0} (b : Bool) (fault : CodecFault) (x y : A) → cond b (Ok x) (Err fault) ≡ Ok y → (b ≡ true) × (x ≡ y)
held true fault x y e = (refl, cc)
held false fault x y e = absurd cc

-- the value and the place that were answered
pub answered : {A : Type 0} (x y : A) (p q : Reading) → done {A = A × Reading} (x, p) ≡ done {A = A × Reading} (y, q) → (x ≡ y) × (p ≡ q)
answered {A} x y p q e =
    let same : (x, p) ≡ (y, q) = pair_is (x, p) (y, q) e in
    (ap (λ (t : A × Reading). t.0) same, ap (λ (t : A × Reading). t.1) same)
  where
    pair_is : (s t : A × Reading) → done s ≡ done t → s ≡ t
    pair_is s t e = cc

-- a word that was found stands ahead
word_ahead : (r new : Reading) (n : ℕ) → integer_at w32 r ≡ Ok (n, new) → (4 ≤ length (left_of r)) × (n ≡ number_ahead w32 r)
unfolding integer_at
word_ahead r new n e =
    let test = passed (nat_lt (length (left_of r)) 4) (Short r.at 4) (Ok (number_ahead w32 r, reading_after r 4)) (n, new) e in
    let is = answered (number_ahead w32 r) n (reading_after r 4) new test.1 in
    (ltb-false _ _ test.0, sym is.0)

-- ---- the steps of a text

-- a length and a text that are whole are looked at byte by byte
pub text_at_checked : (bytes : List ℕ) (at max n : ℕ) (text : List ℕ) → integer_at w32 (reading_at bytes at) ≡ Ok (n, reading_at bytes (at + 4)) → n ≤ max
    → n ≤ length (drop (at + 4) bytes) → text ≡ take n (drop (at + 4) bytes)
    → text_at max (reading_at bytes at) ≡ checked_text (reading_at bytes at) (position is_unprintable text)
unfolding text_at
text_at_checked bytes at max n text found fits whole is_text =
    let r : Reading = reading_at bytes at in
    let word = word_ahead r (reading_at bytes (at + 4)) n found in
    let head : 4 ≤ length (left_of r) = word.0 in
    let has_head : nat_lt (length (left_of r)) 4 ≡ false = le-ltb _ _ head in
    let is_ahead : number_ahead w32 r ≡ n = sym word.1 in
    let has_text : nat_lt (length (left_of r)) (4 + n) ≡ false = le-ltb _ _ (omega (arith, length-drop at bytes, length-drop (at + 4) bytes, whole, head)) in
    let is_fit : nat_lt max n ≡ false = le-ltb _ _ fits in
    let is_text_ahead : text_ahead r ≡ text = rw (is_ahead, drop-drop 4 at bytes) (sym is_text) in
    rw (has_head, is_text_ahead, is_ahead, is_fit, has_text) refl

-- a text with no other byte than 32 to 126 is read
pub text_at_whole : (bytes : List ℕ) (at max n : ℕ) (text : List ℕ) → integer_at w32 (reading_at bytes at) ≡ Ok (n, reading_at bytes (at + 4)) → n ≤ max
    → n ≤ length (drop (at + 4) bytes) → text ≡ take n (drop (at + 4) bytes) → None ≡ position is_unprintable text
    → text_at max (reading_at bytes at) ≡ Ok (text, reading_at bytes (at + (4 + length text)))
text_at_whole bytes at max n text found fits whole is_text clean =
    let r : Reading = reading_at bytes at in
    let word = word_ahead r (reading_at bytes (at + 4)) n found in
    let is_ahead : number_ahead w32 r ≡ n = sym word.1 in
    let is_text_ahead : text_ahead r ≡ text = rw (is_ahead, drop-drop 4 at bytes) (sym is_text) in
    let place : at + (4 + n) ≡ at + (4 + length text) = rw is_text (omega (arith, length-take-le n (drop (at + 4) bytes) whole)) in
    text_at_checked bytes at max n text found fits whole is_text ∙ rw (← clean, is_text_ahead, is_ahead, place) refl

-- ---- characters

both_true : (a b : Bool) → not (a && b) ≡ false → (a ≡ true) × (b ≡ true)
both_true true true e = (refl, refl)
both_true true false e = absurd cc
both_true false b e = absurd cc

printable : (b : ℕ) → is_unprintable b ≡ false → IsPrintable b
printable b e = let both = both_true (nat_le 32 b) (nat_le b 126) e in (leb-true _ _ both.0, leb-true _ _ both.1)

not_unprintable : (b : ℕ) → IsPrintable b → is_unprintable b ≡ false
not_unprintable b is = rw (le-leb 32 b is.0, le-leb b 126 is.1) refl

none_of : (b : Bool) (i : ℕ) (rest : Option ℕ) → cond b (Some i) rest ≡ None → (b ≡ false) × (rest ≡ None)
none_of true i rest e = absurd cc
none_of false i rest e = (refl, e)

each_from : (i : ℕ) (text : List ℕ) → position_from is_unprintable i text ≡ None → AllByRecursion IsPrintable text
each_from i [] e = tt
each_from i (b ∷ text) e =
    let split = none_of (is_unprintable b) i (position_from is_unprintable (i + 1) text) e in
    (printable b split.0, each_from (i + 1) text split.1)

none_from : (i : ℕ) (text : List ℕ) → AllByRecursion IsPrintable text → position_from is_unprintable i text ≡ None
none_from i [] each = refl
none_from i (b ∷ text) each = rw (not_unprintable b each.0) (none_from (i + 1) text each.1)

pub all_printable : (text : List ℕ) → position is_unprintable text ≡ None → All IsPrintable text
all_printable text e = All-from_recursion IsPrintable text (each_from 0 text (sym (position_from-zero is_unprintable text) ∙ e))

pub none_unprintable : (text : List ℕ) → All IsPrintable text → position is_unprintable text ≡ None
none_unprintable text each = position_from-zero is_unprintable text ∙ none_from 0 text (recursion_from_All IsPrintable text each)

-- ---- what is spelled next is read

-- a number whose bytes are next
pub next_integer : (w : Width) → IsWide w → (n : ℕ) (r : Reading) (part rest : List ℕ) → IsBigEndian (byte_len w) n part → left_of r ≡ part ++ rest
    → (nat_lt (length (left_of r)) (byte_len w) ≡ false) × (number_ahead w r ≡ n)
next_integer w wide n r part rest p whole =
    let long : byte_len w ≤ length (left_of r) = rw whole (omega (arith, length-append part rest, p.wide)) in
    let front : take (byte_len w) (left_of r) ≡ part = rw whole (take_at part rest (byte_len w) p.wide) in
    (le-ltb _ _ long, ap (from_be_bytes w) front ∙ wide.same part p.wide ∙ sym p.value)

pub next_byte : (n : ℕ) (r : Reading) → IsNext (Byte n) r → integer_at w8 r ≡ Ok (n, reading_after r 1)
unfolding integer_at
next_byte n r next = let is = next_integer w8 wide8 n r next.part next.rest next.spelled next.whole in rw (is.0, is.1) refl

pub next_word : (n : ℕ) (r : Reading) → IsNext (Word n) r → integer_at w32 r ≡ Ok (n, reading_after r 4)
unfolding integer_at
next_word n r next = let is = next_integer w32 wide32 n r next.part next.rest next.spelled next.whole in rw (is.0, is.1) refl

pub next_long : (n : ℕ) (r : Reading) → IsNext (Long n) r → integer_at w64 r ≡ Ok (n, reading_after r 8)
unfolding integer_at
next_long n r next = let is = next_integer w64 wide64 n r next.part next.rest next.spelled next.whole in rw (is.0, is.1) refl

pub next_number : (n : ℕ) (r : Reading) → IsNext (Number n) r → number_at r ≡ Ok (n, reading_after r 8)
unfolding number_at
next_number n r next =
    let is = next_integer w64 wide64 n r next.part next.rest next.spelled.0 next.whole in
    let below : nat_lt n (2 ^ 62) ≡ true = lt-ltb _ _ next.spelled.1 in
    rw (is.0, is.1, below) refl

pub next_text : (max : ℕ) (text : List ℕ) (r : Reading) → length text ≤ max → IsNext (Text text) r → text_at max r ≡ Ok (text, reading_after r (4 + length text))
unfolding text_at
next_text max text r fits next =
    let p = next.spelled in
    let whole : left_of r ≡ p.head ++ (text ++ next.rest) = next.whole ∙ ap (λ (xs : List ℕ). xs ++ next.rest) p.whole ∙ append_assoc p.head text next.rest in
    let is = next_integer w32 wide32 (length text) r p.head (text ++ next.rest) p.counts whole in
    let behind : drop 4 (left_of r) ≡ text ++ next.rest = rw whole (drop_at p.head (text ++ next.rest) 4 p.counts.wide) in
    let is_text : text_ahead r ≡ text = rw (is.1, behind) (take-append_seam text next.rest) in
    let is_fit : nat_lt max (length text) ≡ false = le-ltb _ _ fits in
    let has_text : nat_lt (length (left_of r)) (4 + length text) ≡ false =
    le-ltb _ _ (rw whole (omega (arith, length-append p.head (text ++ next.rest), length-append text next.rest, p.counts.wide))) in
    rw (is.0, is_text, is.1, is_fit, has_text, none_unprintable text p.each) (rw (is_text, is.1) refl)

-- ---- what is read was spelled next

-- the number ahead, as the grammar has it
ahead_spelled : (w : Width) → IsWide w → (r : Reading) → All IsByte r.bytes → byte_len w ≤ length (left_of r) → IsBigEndian (byte_len w) (number_ahead w r) (take (byte_len w) (left_of r))
ahead_spelled w wide r bytes long =
    let width : length (take (byte_len w) (left_of r)) ≡ byte_len w = length-take-le (byte_len w) (left_of r) long in
    record {
      wide = width;
      each = All-take IsByte (byte_len w) (left_of r) (All-drop IsByte r.at r.bytes bytes);
      value = wide.same (take (byte_len w) (left_of r)) width;
    }

-- what is left behind the bytes of a width
left_behind : (n : ℕ) (r : Reading) → left_of r ≡ take n (left_of r) ++ left_of (reading_after r n)
left_behind n r = sym (take-append-drop n (left_of r)) ∙ ap (λ (xs : List ℕ). take n (left_of r) ++ xs) (drop-drop n r.at r.bytes)

read_spelled : (w : Width) → IsWide w → (field : Field) (r : Reading) → All IsByte r.bytes → byte_len w ≤ length (left_of r)
    → Spells field (take (byte_len w) (left_of r)) → Reads field r (reading_after r (byte_len w))
read_spelled w wide field r bytes long spelled = record {
  part = take (byte_len w) (left_of r);
  spelled = spelled;
  whole = left_behind (byte_len w) r;
  moved = ap (reading_after r) (sym (length-take-le (byte_len w) (left_of r) long));
}

pub read_byte : (r new : Reading) (n : ℕ) → All IsByte r.bytes → integer_at w8 r ≡ Ok (n, new) → Reads (Byte n) r new
unfolding integer_at
read_byte r new n bytes e =
    let test = passed (nat_lt (length (left_of r)) 1) (Short r.at 1) (Ok (number_ahead w8 r, reading_after r 1)) (n, new) e in
    let is = answered (number_ahead w8 r) n (reading_after r 1) new test.1 in
    let long : 1 ≤ length (left_of r) = ltb-false _ _ test.0 in
    subst (λ (m : ℕ). Reads (Byte m) r new) is.0 (subst (λ (q : Reading). Reads (Byte (number_ahead w8 r)) r q) is.1
    (read_spelled w8 wide8 (Byte (number_ahead w8 r)) r bytes long (ahead_spelled w8 wide8 r bytes long)))

pub read_word : (r new : Reading) (n : ℕ) → All IsByte r.bytes → integer_at w32 r ≡ Ok (n, new) → Reads (Word n) r new
unfolding integer_at
read_word r new n bytes e =
    let test = passed (nat_lt (length (left_of r)) 4) (Short r.at 4) (Ok (number_ahead w32 r, reading_after r 4)) (n, new) e in
    let is = answered (number_ahead w32 r) n (reading_after r 4) new test.1 in
    let long : 4 ≤ length (left_of r) = ltb-false _ _ test.0 in
    subst (λ (m : ℕ). Reads (Word m) r new) is.0 (subst (λ (q : Reading). Reads (Word (number_ahead w32 r)) r q) is.1
    (read_spelled w32 wide32 (Word (number_ahead w32 r)) r bytes long (ahead_spelled w32 wide32 r bytes long)))

pub read_long : (r new : Reading) (n : ℕ) → All IsByte r.bytes → integer_at w64 r ≡ Ok (n, new) → Reads (Long n) r new
unfolding integer_at
read_long r new n bytes e =
    let test = passed (nat_lt (length (left_of r)) 8) (Short r.at 8) (Ok (number_ahead w64 r, reading_after r 8)) (n, new) e in
    let is = answered (number_ahead w64 r) n (reading_after r 8) new test.1 in
    let long : 8 ≤ length (left_of r) = ltb-false _ _ test.0 in
    subst (λ (m : ℕ). Reads (Long m) r new) is.0 (subst (λ (q : Reading). Reads (Long (number_ahead w64 r)) r q) is.1
    (read_spelled w64 wide64 (Long (number_ahead w64 r)) r bytes long (ahead_spelled w64 wide64 r bytes long)))

pub read_number : (r new : Reading) (n : ℕ) → All IsByte r.bytes → number_at r ≡ Ok (n, new) → Reads (Number n) r new
unfolding number_at
read_number r new n bytes e =
    let below : Result (ℕ × Reading) CodecFault = cond (nat_lt (number_ahead w64 r) (2 ^ 62)) (Ok (number_ahead w64 r, reading_after r 8)) (Err (BadNumber r.at)) in
    let test = passed (nat_lt (length (left_of r)) 8) (Short r.at 8) below (n, new) e in
    let small = held (nat_lt (number_ahead w64 r) (2 ^ 62)) (BadNumber r.at) (number_ahead w64 r, reading_after r 8) (n, new) test.1 in
    let is = answered (number_ahead w64 r) n (reading_after r 8) new (ap done small.1) in
    let long : 8 ≤ length (left_of r) = ltb-false _ _ test.0 in
    subst (λ (m : ℕ). Reads (Number m) r new) is.0 (subst (λ (q : Reading). Reads (Number (number_ahead w64 r)) r q) is.1
    (read_spelled w64 wide64 (Number (number_ahead w64 r)) r bytes long (ahead_spelled w64 wide64 r bytes long, ltb-true _ _ small.0)))

clean : (r : Reading) (found : Option ℕ) (y : List ℕ × Reading) → checked_text r found ≡ Ok y → (found ≡ None) × (done {A = List ℕ × Reading} (text_ahead r, reading_after r (4 + number_ahead w32 r)) ≡ Ok y)
clean r (Some place) y e = absurd cc
clean r None y e = (refl, e)

-- a length and a text that are whole, as the grammar has them
text_spelled : (r : Reading) → All IsByte r.bytes → 4 + number_ahead w32 r ≤ length (left_of r) → All IsPrintable (text_ahead r) → Reads (Text (text_ahead r)) r (reading_after r (4 + number_ahead w32 r))
text_spelled r bytes long each =
    let n : ℕ = number_ahead w32 r in
    let head : List ℕ = take 4 (left_of r) in
    let text : List ℕ = text_ahead r in
    let has_head : 4 ≤ length (left_of r) = omega (arith, long) in
    let behind : List ℕ = drop 4 (left_of r) in
    let width : length text ≡ n = length-take-le n behind (omega (arith, length-drop 4 (left_of r), long)) in
    let head_width : length head ≡ 4 = length-take-le 4 (left_of r) has_head in
    let spelled = ahead_spelled w32 wide32 r bytes has_head in
    let last : drop n behind ≡ left_of (reading_after r (4 + n)) = drop-drop n 4 (left_of r) ∙ drop-drop (4 + n) r.at r.bytes in
    let split : behind ≡ text ++ left_of (reading_after r (4 + n)) = sym (take-append-drop n behind) ∙ ap (λ (xs : List ℕ). text ++ xs) last in
    record {
      part = head ++ text;
      spelled = record {
        head = head;
        counts = record { wide = head_width; each = spelled.each; value = width ∙ spelled.value };
        each = each;
        whole = refl;
      };
      whole = sym (take-append-drop 4 (left_of r)) ∙ ap (λ (xs : List ℕ). head ++ xs) split ∙ sym (append_assoc head text (left_of (reading_after r (4 + n))));
      moved = ap (reading_after r) (omega (arith, length-append head text, width, head_width));
    }

pub read_text : (max : ℕ) (r new : Reading) (text : List ℕ) → All IsByte r.bytes → text_at max r ≡ Ok (text, new) → Reads (Text text) r new × (length text ≤ max)
unfolding text_at
read_text max r new text bytes e =
    let n : ℕ = number_ahead w32 r in
    let third : Result (List ℕ × Reading) CodecFault = checked_text r (position is_unprintable (text_ahead r)) in
    let second : Result (List ℕ × Reading) CodecFault = cond (nat_lt (length (left_of r)) (4 + n)) (Err (Short (r.at + 4) n)) third in
    let first : Result (List ℕ × Reading) CodecFault = cond (nat_lt max n) (Err (TooLong r.at n)) second in
    let a = passed (nat_lt (length (left_of r)) 4) (Short r.at 4) first (text, new) e in
    let b = passed (nat_lt max n) (TooLong r.at n) second (text, new) a.1 in
    let c = passed (nat_lt (length (left_of r)) (4 + n)) (Short (r.at + 4) n) third (text, new) b.1 in
    let d = clean r (position is_unprintable (text_ahead r)) (text, new) c.1 in
    let is = answered (text_ahead r) text (reading_after r (4 + n)) new d.1 in
    let long : 4 + n ≤ length (left_of r) = ltb-false _ _ c.0 in
    let width : length (text_ahead r) ≡ n = length-take-le n (drop 4 (left_of r)) (omega (arith, length-drop 4 (left_of r), long)) in
    let fits : n ≤ max = ltb-false _ _ b.0 in
    let reads = text_spelled r bytes long (all_printable (text_ahead r) d.0) in
    (subst (λ (t : List ℕ). Reads (Text t) r new) is.0 (subst (λ (q : Reading). Reads (Text (text_ahead r)) r q) is.1 reads), rw (← is.0, width) fits)

-- ---- no other answer where a field is next

pub one_value : {A : Type 0} (answer : Result (A × Reading) CodecFault) (x y : A) (p q : Reading) → answer ≡ Ok (x, p) → answer ≡ Ok (y, q) → x ≡ y
one_value answer x y p q first second = (answered x y p q (sym first ∙ second)).0

pub no_fault : {A : Type 0} (answer : Result (A × Reading) CodecFault) (fault : CodecFault) (y : A) (q : Reading) → answer ≡ Err fault → answer ≡ Ok (y, q) → ⊥
no_fault answer fault y q first second = cc

pub no_byte : (r inside : Reading) (fault : CodecFault) (n : ℕ) → inside ≡ r → integer_at w8 inside ≡ Err fault → IsNext (Byte n) r → ⊥
no_byte r inside fault n is e next = no_fault (integer_at w8 r) fault n (reading_after r 1) (rw (← is) e) (next_byte n r next)

pub no_word : (r inside : Reading) (fault : CodecFault) (n : ℕ) → inside ≡ r → integer_at w32 inside ≡ Err fault → IsNext (Word n) r → ⊥
no_word r inside fault n is e next = no_fault (integer_at w32 r) fault n (reading_after r 4) (rw (← is) e) (next_word n r next)

pub no_long : (r inside : Reading) (fault : CodecFault) (n : ℕ) → inside ≡ r → integer_at w64 inside ≡ Err fault → IsNext (Long n) r → ⊥
no_long r inside fault n is e next = no_fault (integer_at w64 r) fault n (reading_after r 8) (rw (← is) e) (next_long n r next)

pub only_byte : (r inside new : Reading) (m n : ℕ) → inside ≡ r → integer_at w8 inside ≡ Ok (m, new) → IsNext (Byte n) r → m ≡ n
only_byte r inside new m n is e next = one_value (integer_at w8 r) m n new (reading_after r 1) (rw (← is) e) (next_byte n r next)

pub only_word : (r inside new : Reading) (m n : ℕ) → inside ≡ r → integer_at w32 inside ≡ Ok (m, new) → IsNext (Word n) r → m ≡ n
only_word r inside new m n is e next = one_value (integer_at w32 r) m n new (reading_after r 4) (rw (← is) e) (next_word n r next)

pub only_long : (r inside new : Reading) (m n : ℕ) → inside ≡ r → integer_at w64 inside ≡ Ok (m, new) → IsNext (Long n) r → m ≡ n
only_long r inside new m n is e next = one_value (integer_at w64 r) m n new (reading_after r 8) (rw (← is) e) (next_long n r next)

pub only_number : (r inside new : Reading) (m n : ℕ) → inside ≡ r → number_at inside ≡ Ok (m, new) → IsNext (Number n) r → m ≡ n
only_number r inside new m n is e next = one_value (number_at r) m n new (reading_after r 8) (rw (← is) e) (next_number n r next)

pub no_number : (r inside : Reading) (fault : CodecFault) (n : ℕ) → inside ≡ r → number_at inside ≡ Err fault → IsNext (Number n) r → ⊥
no_number r inside fault n is e next = no_fault (number_at r) fault n (reading_after r 8) (rw (← is) e) (next_number n r next)

pub only_text : (max : ℕ) (r inside new : Reading) (found text : List ℕ) → inside ≡ r → text_at max inside ≡ Ok (found, new) → length text ≤ max → IsNext (Text text) r → found ≡ text
only_text max r inside new found text is e fits next = one_value (text_at max r) found text new (reading_after r (4 + length text)) (rw (← is) e) (next_text max text r fits next)

pub no_text : (max : ℕ) (r inside : Reading) (fault : CodecFault) (text : List ℕ) → inside ≡ r → text_at max inside ≡ Err fault → length text ≤ max → IsNext (Text text) r → ⊥
no_text max r inside fault text is e fits next = no_fault (text_at max r) fault text (reading_after r (4 + length text)) (rw (← is) e) (next_text max text r fits next)
