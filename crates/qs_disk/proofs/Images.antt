-- Images of a frame, by their parts.
use Rattle.std.proofs.Common.{◌≡◌, ◌≤◌, ◌+◌, ◌-◌, ℕ, zero, suc, min, max, Bool, true, false, List, [], ◌∷◌, ◌++◌, length, take, drop, replicate, set, get_or, refl, sym, ◌∙◌, ap, subst, arith}
use Rattle.std.proofs.lemmas.List.{length-append, length-replicate, length-take-le, nil_from_length}
use Rattle.qs_disk.specs.Disk.{Matches, Torn, range, with_range}
use Rattle.qs_disk.specs.Cells.{IsQuiet, IsWithin, marked}
use Rattle.qs_disk.proofs.Ranges.{whole, take_seams, drop_seams, take_before, drop_behind, length_put, length_range}

-- flags

quiet_take : (n : ℕ) (loose : List Bool) → IsQuiet loose → IsQuiet (take n loose)
quiet_take zero loose q = tt
quiet_take (suc n) [] q = tt
quiet_take (suc n) (l ∷ loose) q = (q.0, quiet_take n loose (q.1))

quiet_drop : (n : ℕ) (loose : List Bool) → IsQuiet loose → IsQuiet (drop n loose)
quiet_drop zero loose q = q
quiet_drop (suc n) [] q = tt
quiet_drop (suc n) (l ∷ loose) q = quiet_drop n loose (q.1)

quiet_append : (front rest : List Bool) → IsQuiet front → IsQuiet rest → IsQuiet (front ++ rest)
quiet_append [] rest p q = q
quiet_append (l ∷ front) rest p q = (p.0, quiet_append front rest (p.1) q)

pub quiet_replicate : (n : ℕ) → IsQuiet (replicate n false)
quiet_replicate zero = tt
quiet_replicate (suc n) = (refl, quiet_replicate n)

quiet_before : (n m : ℕ) (loose : List Bool) → n ≤ m → IsQuiet (take m loose) → IsQuiet (take n loose)
quiet_before zero m loose le q = tt
quiet_before (suc n) zero loose le q = absurd (omega arith)
quiet_before (suc n) (suc m) [] le q = tt
quiet_before (suc n) (suc m) (l ∷ loose) le q = (q.0, quiet_before n m loose (omega arith) (q.1))

quiet_after : (n m : ℕ) (loose : List Bool) → m ≤ n → IsQuiet (drop m loose) → IsQuiet (drop n loose)
quiet_after n zero loose le q = quiet_drop n loose q
quiet_after zero (suc m) loose le q = absurd (omega arith)
quiet_after (suc n) (suc m) [] le q = tt
quiet_after (suc n) (suc m) (l ∷ loose) le q = quiet_after n m loose (omega arith) q

quiet_joined : (from to : ℕ) (loose : List Bool) → to ≤ from → IsQuiet (take from loose) → IsQuiet (drop to loose) → IsQuiet loose
quiet_joined from zero loose le p q = q
quiet_joined zero (suc to) loose le p q = absurd (omega arith)
quiet_joined (suc from) (suc to) [] le p q = tt
quiet_joined (suc from) (suc to) (l ∷ loose) le p q = (p.0, quiet_joined from to loose (omega arith) (p.1) q)

-- images

matches_length : (s : List ℕ) (l : List Bool) (c : List ℕ) → Matches s l c → length c ≡ length s
matches_length [] l c m = ap length m
matches_length (s ∷ ss) [] c m = ap length m
matches_length (s ∷ ss) (l ∷ ls) [] m = absurd m
matches_length (s ∷ ss) (true ∷ ls) (b ∷ c) m = ap suc (matches_length ss ls c m)
matches_length (s ∷ ss) (false ∷ ls) (b ∷ c) m = ap suc (matches_length ss ls c (m.1))

-- the stable bytes are an image
matches_own : (s : List ℕ) (l : List Bool) → Matches s l s
matches_own [] l = refl
matches_own (s ∷ ss) [] = refl
matches_own (s ∷ ss) (true ∷ ls) = matches_own ss ls
matches_own (s ∷ ss) (false ∷ ls) = (refl, matches_own ss ls)

-- where no place is loose they are the only one
pub matches_quiet : (s : List ℕ) (l : List Bool) (c : List ℕ) → IsQuiet l → Matches s l c → c ≡ s
matches_quiet [] l c q m = m
matches_quiet (s ∷ ss) [] c q m = m
matches_quiet (s ∷ ss) (l ∷ ls) [] q m = absurd m
matches_quiet (s ∷ ss) (true ∷ ls) (b ∷ c) q m = let e : true ≡ false = q.0 in cc
matches_quiet (s ∷ ss) (false ∷ ls) (b ∷ c) q m = let e : b ≡ s = m.0 in let f : c ≡ ss = matches_quiet ss ls c (q.1) (m.1) in cc

-- where each place is loose any bytes are
matches_free : (s c : List ℕ) → length c ≡ length s → Matches s (replicate (length s) true) c
matches_free [] c long = nil_from_length c long
matches_free (s ∷ ss) [] long = absurd (omega arith)
matches_free (s ∷ ss) (b ∷ c) long = matches_free ss c (omega arith)

matches_take : (n : ℕ) (s : List ℕ) (l : List Bool) (c : List ℕ) → Matches s l c → Matches (take n s) (take n l) (take n c)
matches_take zero s l c m = refl
matches_take (suc n) [] l c m = ap (take (suc n)) m
matches_take (suc n) (s ∷ ss) [] c m = ap (take (suc n)) m
matches_take (suc n) (s ∷ ss) (l ∷ ls) [] m = absurd m
matches_take (suc n) (s ∷ ss) (true ∷ ls) (b ∷ c) m = matches_take n ss ls c m
matches_take (suc n) (s ∷ ss) (false ∷ ls) (b ∷ c) m = (m.0, matches_take n ss ls c (m.1))

matches_drop : (n : ℕ) (s : List ℕ) (l : List Bool) (c : List ℕ) → Matches s l c → Matches (drop n s) (drop n l) (drop n c)
matches_drop zero s l c m = m
matches_drop (suc n) [] l c m = ap (drop (suc n)) m
matches_drop (suc n) (s ∷ ss) [] c m = subst (λ d. Matches (drop n ss) [] (drop (suc n) d)) (sym m) (matches_own (drop n ss) [])
matches_drop (suc n) (s ∷ ss) (l ∷ ls) [] m = absurd m
matches_drop (suc n) (s ∷ ss) (true ∷ ls) (b ∷ c) m = matches_drop n ss ls c m
matches_drop (suc n) (s ∷ ss) (false ∷ ls) (b ∷ c) m = matches_drop n ss ls c (m.1)

matches_append : (s t : List ℕ) (l k : List Bool) (c d : List ℕ) → length s ≡ length l → Matches s l c → Matches t k d → Matches (s ++ t) (l ++ k) (c ++ d)
matches_append [] t [] k c d long m n = subst (λ e. Matches t k (e ++ d)) (sym m) n
matches_append [] t (l ∷ ls) k c d long m n = absurd (omega arith)
matches_append (s ∷ ss) t [] k c d long m n = absurd (omega arith)
matches_append (s ∷ ss) t (l ∷ ls) k [] d long m n = absurd m
matches_append (s ∷ ss) t (true ∷ ls) k (b ∷ c) d long m n = matches_append ss t ls k c d (omega arith) m n
matches_append (s ∷ ss) t (false ∷ ls) k (b ∷ c) d long m n = (m.0, matches_append ss t ls k c d (omega arith) (m.1) n)

-- a loose place may hold any byte
pub matches_set : (s : List ℕ) (l : List Bool) (c : List ℕ) (at byte : ℕ) → get_or l at false ≡ true → Matches s l c → Matches s l (set c at byte)
matches_set [] l c at byte loose m = ap (λ (d : List ℕ). set d at byte) m
matches_set (s ∷ ss) [] c at byte loose m = cc
matches_set (s ∷ ss) (l ∷ ls) [] at byte loose m = absurd m
matches_set (s ∷ ss) (true ∷ ls) (b ∷ c) zero byte loose m = m
matches_set (s ∷ ss) (false ∷ ls) (b ∷ c) zero byte loose m = cc
matches_set (s ∷ ss) (true ∷ ls) (b ∷ c) (suc at) byte loose m = matches_set ss ls c at byte loose m
matches_set (s ∷ ss) (false ∷ ls) (b ∷ c) (suc at) byte loose m = (m.0, matches_set ss ls c at byte loose (m.1))

-- an image of three parts
matches_parts : (at count : ℕ) (s : List ℕ) (l : List Bool) (part : List Bool) (front middle rest : List ℕ)
    → length l ≡ length s → at + count ≤ length s → length part ≡ count
    → Matches (take at s) (take at l) front → Matches (range at count s) part middle → Matches (drop (at + count) s) (drop (at + count) l) rest
    → Matches s (take at l ++ part ++ drop (at + count) l) (front ++ middle ++ rest)
matches_parts at count s l part front middle rest flags fits long p q r =
    let a : length (take at s) ≡ at = length-take-le at s (omega arith) in
    let b : length (take at l) ≡ at = length-take-le at l (omega arith) in
    let m : length (range at count s) ≡ count = length_range at count s fits in
    let first : length (take at s) ≡ length (take at l) = omega arith in
    let both : length (take at s ++ range at count s) ≡ length (take at l ++ part) = omega (arith, length-append (take at s) (range at count s), length-append (take at l) part) in
    subst (λ t. Matches t (take at l ++ part ++ drop (at + count) l) (front ++ middle ++ rest)) (whole at count s)
    (matches_append (take at s ++ range at count s) (drop (at + count) s) (take at l ++ part) (drop (at + count) l) (front ++ middle) rest both
    (matches_append (take at s) (range at count s) (take at l) part front middle first p q) r)

-- a write

-- the bytes written make an image
matches_written : (at : ℕ) (s : List ℕ) (l : List Bool) (c bytes : List ℕ) → length l ≡ length s → at + length bytes ≤ length s → Matches s l c
    → Matches s (marked at (at + length bytes) true l) (with_range c at bytes)
matches_written at s l c bytes flags fits m =
    let long : length (range at (length bytes) s) ≡ length bytes = length_range at (length bytes) s fits in
    let count : at + length bytes - at ≡ length bytes = omega arith in
    matches_parts at (length bytes) s l (replicate (at + length bytes - at) true) (take at c) bytes (drop (at + length bytes) c) flags fits
    (length-replicate (at + length bytes - at) true ∙ count) (matches_take at s l c m)
    (subst (λ n. Matches (range at (length bytes) s) (replicate n true) bytes) (long ∙ sym count) (matches_free (range at (length bytes) s) bytes (sym long)))
    (matches_drop (at + length bytes) s l c m)

-- each image of before is one still
pub matches_still : (at count : ℕ) (s : List ℕ) (l : List Bool) (c : List ℕ) → length l ≡ length s → at + count ≤ length s → Matches s l c
    → Matches s (marked at (at + count) true l) c
matches_still at count s l c flags fits m =
    let all : length c ≡ length s = matches_length s l c m in
    let part : length (range at count c) ≡ count = length_range at count c (omega arith) in
    subst (λ d. Matches s (marked at (at + count) true l) d) (whole at count c)
    (subst (λ n. Matches s (marked at (at + n) true l) (take at c ++ range at count c ++ drop (at + n) c)) part
    (matches_written at s l c (range at count c) flags (omega arith) m))

-- each image after it is one from before, torn in the range
pub torn_from : (at count : ℕ) (s : List ℕ) (l : List Bool) (c : List ℕ) → length l ≡ length s → at + count ≤ length s
    → Matches s (marked at (at + count) true l) c → (d : List ℕ) × Matches s l d × Torn at count d c
torn_from at count s l c flags fits m =
    let flag : length (replicate (at + count - at) true) ≡ count = length-replicate (at + count - at) true ∙ omega arith in
    let all : length c ≡ length s = matches_length s (marked at (at + count) true l) c m in
    let middle : length (range at count s) ≡ count = length_range at count s fits in
    let front : length (take at c) ≡ at = length-take-le at c (omega arith) in
    let p : Matches (take at s) (take at l) (take at c) =
    subst (λ t. Matches (take at s) t (take at c)) (take_before at at l (replicate (at + count - at) true) (drop (at + count) l) (omega arith) (omega arith))
    (matches_take at s (marked at (at + count) true l) c m) in
    let r : Matches (drop (at + count) s) (drop (at + count) l) (drop (at + count) c) =
    subst (λ t. Matches (drop (at + count) s) t (drop (at + count) c)) (drop_behind (at + count) at (at + count) l (replicate (at + count - at) true) (omega arith) (omega arith) (omega arith))
    (matches_drop (at + count) s (marked at (at + count) true l) c m) in
    let own : Matches s (take at l ++ (take count (drop at l)) ++ drop (at + count) l) (take at c ++ range at count s ++ drop (at + count) c) =
    matches_parts at count s l (take count (drop at l)) (take at c) (range at count s) (drop (at + count) c) flags fits
    (length_range at count l (omega arith)) p (matches_own (range at count s) (take count (drop at l))) r in (
      take at c ++ range at count s ++ drop (at + count) c,
      subst (λ t. Matches s t (take at c ++ range at count s ++ drop (at + count) c)) (whole at count l) own,
      record {
        before = sym (take_seams at (take at c) (range at count s) (drop (at + count) c) front);
        after = sym (drop_seams (at + count) (take at c) (range at count s) (drop (at + count) c) (omega arith));
        as_long = sym (length_put at (at + count) c (range at count s) (omega arith) (omega arith));
      },
    )

-- bounds

pub within_synced : (content stable : List ℕ) (loose : List Bool) (from : ℕ) → stable ≡ content → length loose ≡ length content → IsQuiet loose → from ≡ length content → IsWithin content stable loose from 0
within_synced content stable loose from same flags quiet end = record {
  image = subst (λ s. Matches s loose content) (sym same) (matches_own content loose);
  bytes = ap length same;
  flags = flags;
  start = omega arith;
  stop = omega arith;
  before = quiet_take from loose quiet;
  after = quiet;
}

-- each image is the stable bytes
pub still_quiet : (content stable : List ℕ) (loose : List Bool) → stable ≡ content → IsQuiet loose → (c : List ℕ) → Matches stable loose c → c ≡ content
still_quiet content stable loose same quiet c m = matches_quiet stable loose c quiet m ∙ same

-- an image takes the content's place
pub within_drawn : (content stable drawn : List ℕ) (loose : List Bool) (from to : ℕ) → IsWithin content stable loose from to → Matches stable loose drawn → length drawn ≡ length content → IsWithin drawn stable loose from to
within_drawn content stable drawn loose from to w image long = record {
  image = image;
  bytes = w.bytes ∙ sym long;
  flags = w.flags ∙ sym long;
  start = omega arith;
  stop = omega arith;
  before = w.before;
  after = w.after;
}

pub within_written : (content stable : List ℕ) (loose : List Bool) (from to at : ℕ) (bytes : List ℕ) → IsWithin content stable loose from to → at + length bytes ≤ length content
    → IsWithin (with_range content at bytes) stable (marked at (at + length bytes) true loose) (min from at) (max to (at + length bytes))
within_written content stable loose from to at bytes w fits =
    let count : length (replicate (at + length bytes - at) true) ≡ length bytes = length-replicate (at + length bytes - at) true ∙ omega arith in
    let long : length (with_range content at bytes) ≡ length content = length_put at (at + length bytes) content bytes fits refl in
    let flags : length (marked at (at + length bytes) true loose) ≡ length loose = length_put at (at + length bytes) loose (replicate (at + length bytes - at) true) (omega arith) (omega arith) in
    record {
      image = matches_written at stable loose content bytes (omega arith) (omega arith) w.image;
      bytes = omega arith;
      flags = omega arith;
      start = omega arith;
      stop = omega arith;
      before = subst IsQuiet (sym (take_before (min from at) at loose (replicate (at + length bytes - at) true) (drop (at + length bytes) loose) (omega arith) (omega arith)))
          (quiet_before (min from at) from loose (omega arith) w.before);
      after = subst IsQuiet (sym (drop_behind (max to (at + length bytes)) at (at + length bytes) loose (replicate (at + length bytes - at) true) (omega arith) (omega arith) (omega arith)))
          (quiet_after (max to (at + length bytes)) to loose (omega arith) w.after);
    }

-- a sync

-- nothing is loose
pub settled_nowhere : (content stable : List ℕ) (loose : List Bool) (from to : ℕ) → IsWithin content stable loose from to → to ≤ from → stable ≡ content
settled_nowhere content stable loose from to w none = sym (matches_quiet stable loose content (quiet_joined from to loose none w.before w.after) w.image)

pub quiet_nowhere : (content stable : List ℕ) (loose : List Bool) (from to : ℕ) → IsWithin content stable loose from to → to ≤ from → IsQuiet loose
quiet_nowhere content stable loose from to w none = quiet_joined from to loose none w.before w.after

-- the flags of the bounds taken back
pub quiet_settled : (content stable : List ℕ) (loose : List Bool) (from to : ℕ) → IsWithin content stable loose from to → IsQuiet (marked from to false loose)
quiet_settled content stable loose from to w =
    quiet_append (take from loose ++ replicate (to - from) false) (drop to loose)
    (quiet_append (take from loose) (replicate (to - from) false) w.before (quiet_replicate (to - from))) w.after

-- the bytes of the bounds copied
pub settled : (content stable : List ℕ) (loose : List Bool) (from to : ℕ) → IsWithin content stable loose from to → from ≤ to
    → with_range stable from (range from (to - from) content) ≡ content
settled content stable loose from to w ordered =
    let before : take from content ≡ take from stable = matches_quiet (take from stable) (take from loose) (take from content) w.before (matches_take from stable loose content w.image) in
    let after : drop to content ≡ drop to stable = matches_quiet (drop to stable) (drop to loose) (drop to content) w.after (matches_drop to stable loose content w.image) in
    let long : length (range from (to - from) content) ≡ to - from = length_range from (to - from) content (omega arith) in
    let end : from + (to - from) ≡ to = omega arith in
    let stop : from + length (range from (to - from) content) ≡ to = omega arith in
    let all : take from content ++ range from (to - from) content ++ drop (from + (to - from)) content ≡ content = whole from (to - from) content in
    rw (stop, sym before, sym after) (subst (λ n. take from content ++ range from (to - from) content ++ drop n content ≡ content) end all)
