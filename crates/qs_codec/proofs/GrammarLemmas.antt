-- Each field has one spelling, which begins no other field's of its kind.
use Rattle.std.proofs.Common.{◌≡◌, ◌<◌, ℕ, List, [], ◌∷◌, ◌++◌, length, get_or, take, drop, All, refl, ap, ◌∙◌, sym, append_assoc, arith, inl, inr}
use Rattle.std.proofs.Math.Seq.{take-append_seam, drop-append_seam}
use Rattle.std.proofs.lemmas.Bool.{cases_lt}
use Rattle.std.proofs.lemmas.List.{get_or_past}
use Rattle.std.proofs.lemmas.Nat.{be_bytes_4, be_bytes_8}
use Rattle.std.specs.Int.{Width, w8, w32, w64, byte_len, from_be_bytes}
use Rattle.qs_codec.specs.Grammar.{Field, Byte, Word, Long, Number, Text, IsByte, big_endian, IsBigEndian, IsText, Spells, IsSameKind}

-- ---- numbers of a width

-- so many bytes are the number that std makes of them, and no others are
pub record IsWide (w : Width) : Type 0 where
  pub same : (bytes : List ℕ) → length bytes ≡ byte_len w → from_be_bytes w bytes ≡ big_endian bytes
  pub one : (a b : List ℕ) → length a ≡ byte_len w → length b ≡ byte_len w → All IsByte a → All IsByte b → from_be_bytes w a ≡ from_be_bytes w b → a ≡ b

-- a byte at each place, and 0 past the end
each_byte : (bytes : List ℕ) → All IsByte bytes → (i : ℕ) → get_or bytes i 0 < 256
each_byte bytes each i =
    elim (cases_lt i (length bytes)) [
      | inl lt ↦ each i 0 lt
      | inr le ↦ rw (get_or_past bytes i 0 le) (omega arith)
    ]

same_1 : (bytes : List ℕ) → length bytes ≡ 1 → from_be_bytes w8 bytes ≡ big_endian bytes
same_1 [] len = absurd (omega (arith, len))
same_1 (a ∷ []) len = omega arith
same_1 (a ∷ b ∷ rest) len = absurd (omega (arith, len))

same_4 : (bytes : List ℕ) → length bytes ≡ 4 → from_be_bytes w32 bytes ≡ big_endian bytes
same_4 [] len = absurd (omega (arith, len))
same_4 (a ∷ []) len = absurd (omega (arith, len))
same_4 (a ∷ b ∷ []) len = absurd (omega (arith, len))
same_4 (a ∷ b ∷ c ∷ []) len = absurd (omega (arith, len))
same_4 (a ∷ b ∷ c ∷ d ∷ []) len = omega arith
same_4 (a ∷ b ∷ c ∷ d ∷ e ∷ rest) len = absurd (omega (arith, len))

same_8 : (bytes : List ℕ) → length bytes ≡ 8 → from_be_bytes w64 bytes ≡ big_endian bytes
same_8 [] len = absurd (omega (arith, len))
same_8 (a ∷ []) len = absurd (omega (arith, len))
same_8 (a ∷ b ∷ []) len = absurd (omega (arith, len))
same_8 (a ∷ b ∷ c ∷ []) len = absurd (omega (arith, len))
same_8 (a ∷ b ∷ c ∷ d ∷ []) len = absurd (omega (arith, len))
same_8 (a ∷ b ∷ c ∷ d ∷ e ∷ []) len = absurd (omega (arith, len))
same_8 (a ∷ b ∷ c ∷ d ∷ e ∷ f ∷ []) len = absurd (omega (arith, len))
same_8 (a ∷ b ∷ c ∷ d ∷ e ∷ f ∷ g ∷ []) len = absurd (omega (arith, len))
same_8 (a ∷ b ∷ c ∷ d ∷ e ∷ f ∷ g ∷ h ∷ []) len = omega arith
same_8 (a ∷ b ∷ c ∷ d ∷ e ∷ f ∷ g ∷ h ∷ i ∷ rest) len = absurd (omega (arith, len))

one_1 : (a b : List ℕ) → length a ≡ 1 → length b ≡ 1 → from_be_bytes w8 a ≡ from_be_bytes w8 b → a ≡ b
one_1 [] b len_a len_b e = absurd (omega (arith, len_a))
one_1 (x ∷ y ∷ rest) b len_a len_b e = absurd (omega (arith, len_a))
one_1 (x ∷ []) [] len_a len_b e = absurd (omega (arith, len_b))
one_1 (x ∷ []) (y ∷ z ∷ rest) len_a len_b e = absurd (omega (arith, len_b))
one_1 (x ∷ []) (y ∷ []) len_a len_b e = ap (λ (n : ℕ). n ∷ []) (omega (arith, e))

pub wide8 : IsWide w8
wide8 = record {
  same = same_1;
  one = λ a b len_a len_b each_a each_b e. one_1 a b len_a len_b e;
}

pub wide32 : IsWide w32
wide32 = record {
  same = same_4;
  one = λ a b len_a len_b each_a each_b e. sym (be_bytes_4 a (from_be_bytes w32 a) len_a (each_byte a each_a) refl) ∙ be_bytes_4 b (from_be_bytes w32 a) len_b (each_byte b each_b) e;
}

pub wide64 : IsWide w64
wide64 = record {
  same = same_8;
  one = λ a b len_a len_b each_a each_b e. sym (be_bytes_8 a (from_be_bytes w64 a) len_a (each_byte a each_a) refl) ∙ be_bytes_8 b (from_be_bytes w64 a) len_b (each_byte b each_b) e;
}

-- the bytes of a number are its own
pub one_number : (w : Width) → IsWide w → (m n : ℕ) (a b : List ℕ) → IsBigEndian (byte_len w) m a → IsBigEndian (byte_len w) n b → m ≡ n → a ≡ b
one_number w wide m n a b p q e =
    wide.one a b p.wide q.wide p.each q.each (wide.same a p.wide ∙ sym p.value ∙ e ∙ q.value ∙ sym (wide.same b q.wide))

-- ---- fronts

-- two fronts of one list that are as long are one
pub same_front : (a b x y : List ℕ) → length a ≡ length b → a ++ x ≡ b ++ y → a ≡ b
same_front a b x y len e =
    sym (take-append_seam a x) ∙ ap (λ (xs : List ℕ). take (length a) xs) e ∙ ap (λ (n : ℕ). take n (b ++ y)) len ∙ take-append_seam b y

-- numbers of one width at the front of one list are one number
pub front_number : (width m n : ℕ) (a b x y : List ℕ) → IsBigEndian width m a → IsBigEndian width n b → a ++ x ≡ b ++ y → (m ≡ n) × (a ≡ b)
front_number width m n a b x y p q e =
    let same : a ≡ b = same_front a b x y (p.wide ∙ sym q.wide) e in
    (p.value ∙ ap big_endian same ∙ sym q.value, same)

-- texts at the front of one list are one text
pub front_text : (s t a b x y : List ℕ) → IsText s a → IsText t b → a ++ x ≡ b ++ y → (s ≡ t) × (a ≡ b)
front_text s t a b x y p q e =
    let regrouped : p.head ++ (s ++ x) ≡ q.head ++ (t ++ y) =
    sym (append_assoc p.head s x) ∙ ap (λ (xs : List ℕ). xs ++ x) (sym p.whole) ∙ e ∙ ap (λ (xs : List ℕ). xs ++ y) q.whole ∙ append_assoc q.head t y in
    let heads = front_number 4 (length s) (length t) p.head q.head (s ++ x) (t ++ y) p.counts q.counts regrouped in
    let rests : s ++ x ≡ t ++ y = same_rest p.head q.head (s ++ x) (t ++ y) heads.1 regrouped in
    let texts : s ≡ t = same_front s t x y heads.0 rests in
    (texts, p.whole ∙ ap (λ (xs : List ℕ). xs ++ s) heads.1 ∙ ap (λ (xs : List ℕ). q.head ++ xs) texts ∙ sym q.whole)
  where
    same_rest : (a b x y : List ℕ) → a ≡ b → a ++ x ≡ b ++ y → x ≡ y
    same_rest a b x y same e = sym (drop-append_seam a x) ∙ ap (λ (xs : List ℕ). drop (length a) xs) e ∙ ap (λ (xs : List ℕ). drop (length xs) (b ++ y)) same ∙ drop-append_seam b y

-- ---- the two laws

pub no_prefix : (f g : Field) (a b x y : List ℕ) → IsSameKind f g → Spells f a → Spells g b → a ++ x ≡ b ++ y → (f ≡ g) × (a ≡ b)
no_prefix (Byte m) (Byte n) a b x y kind p q e = let same = front_number 1 m n a b x y p q e in (ap Byte same.0, same.1)
no_prefix (Word m) (Word n) a b x y kind p q e = let same = front_number 4 m n a b x y p q e in (ap Word same.0, same.1)
no_prefix (Long m) (Long n) a b x y kind p q e = let same = front_number 8 m n a b x y p q e in (ap Long same.0, same.1)
no_prefix (Number m) (Number n) a b x y kind p q e = let same = front_number 8 m n a b x y p.0 q.0 e in (ap Number same.0, same.1)
no_prefix (Text s) (Text t) a b x y kind p q e = let same = front_text s t a b x y p q e in (ap Text same.0, same.1)
no_prefix f g a b x y kind p q e = absurd kind

pub one_spelling : (f : Field) (a b : List ℕ) → Spells f a → Spells f b → a ≡ b
one_spelling (Byte n) a b p q = one_number w8 wide8 n n a b p q refl
one_spelling (Word n) a b p q = one_number w32 wide32 n n a b p q refl
one_spelling (Long n) a b p q = one_number w64 wide64 n n a b p q refl
one_spelling (Number n) a b p q = one_number w64 wide64 n n a b p.0 q.0 refl
one_spelling (Text t) a b p q =
    p.whole ∙ ap (λ (xs : List ℕ). xs ++ t) (one_number w32 wide32 (length t) (length t) p.head q.head p.counts q.counts refl) ∙ sym q.whole
