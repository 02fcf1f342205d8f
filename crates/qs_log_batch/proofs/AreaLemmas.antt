-- Batches of an area: they are counted in one way, and an area is broken at one place at most.
use Rattle.std.proofs.Common.{◌≡◌, ◌≤◌, ◌+◌, ◌-◌, ℕ, zero, suc, List, [], ◌∷◌, ◌++◌, length, get_or, take, drop, refl, ap, ◌∙◌, sym, subst, Result, Err, append_assoc, append-nil, arith, length-append}
use Rattle.std.specs.Prelude.{sum_by}
use Rattle.std.proofs.Math.Seq.{take-append_seam}
use Rattle.std.proofs.lemmas.List.{take-append-drop, take_at, get_or-drop, get_or-take, get_or-append-add}
use Rattle.std.proofs.lemmas.List.Sums.{sum_by-cons}
use Rattle.qs_record.specs.declared.record.Record.{Record}
use Rattle.qs_log_batch.specs.declared.fault.BatchFault.{BatchFault}
use Rattle.qs_log_batch.specs.declared.fault.BatchFault.TheVariants.{Broken}
use Rattle.qs_log_batch.specs.Reading.{HasNone, AddsBatch}
use Rattle.qs_log_batch.specs.Batch.{SpellsBatch, SpellsBatches, IsClosed, Counts, IsBroken, IsCounted, joined, batch_length}
use Rattle.qs_log_batch.proofs.Fronts.{regroup, same_behind, same_cons, same_append}
use Rattle.qs_log_batch.proofs.BatchLemmas.{batch_front, batch_long}

pub closed_none : (format : ℕ) (area : List ℕ) → IsClosed area → HasNone format area
closed_none format area closed = record {
  none = λ records front back whole p. closed (ap (λ (xs : List ℕ). get_or xs 0 0) (whole ∙ ap (λ (xs : List ℕ). xs ++ back) p.whole));
}

-- batches before what is no batch are one list of batches
pub batches_one : (format : ℕ) (bs cs : List (List Record)) (a b x y : List ℕ) → SpellsBatches format bs a → SpellsBatches format cs b
    → a ++ x ≡ b ++ y → HasNone format x → HasNone format y → (bs ≡ cs) × (a ≡ b)
batches_one format [] [] a b x y p q e no_x no_y = (refl, p ∙ sym q)
batches_one format [] (c ∷ cs) a b x y p q e no_x no_y =
    absurd (no_x.none c q.front (q.back ++ y) (ap (λ (xs : List ℕ). xs ++ x) (sym p) ∙ e ∙ regroup q.front q.back b y q.whole) q.first)
batches_one format (c ∷ bs) [] a b x y p q e no_x no_y =
    absurd (no_y.none c p.front (p.back ++ x) (ap (λ (xs : List ℕ). xs ++ y) (sym q) ∙ sym e ∙ regroup p.front p.back a x p.whole) p.first)
batches_one format (c ∷ bs) (d ∷ cs) a b x y p q e no_x no_y =
    let regrouped : p.front ++ (p.back ++ x) ≡ q.front ++ (q.back ++ y) = sym (regroup p.front p.back a x p.whole) ∙ e ∙ regroup q.front q.back b y q.whole in
    let one = batch_front format c d p.front q.front (p.back ++ x) (q.back ++ y) p.first q.first regrouped in
    let rests : p.back ++ x ≡ q.back ++ y = same_behind p.front q.front (p.back ++ x) (q.back ++ y) one.1 regrouped in
    let more = batches_one format bs cs p.back q.back x y p.second q.second rests no_x no_y in
    (same_cons c d bs cs one.0 more.0, p.whole ∙ same_append p.front p.back q.front q.back one.1 more.1 ∙ sym q.whole)

-- batches are as long as they are together
pub batches_long : (format : ℕ) (bs : List (List Record)) (a : List ℕ) → SpellsBatches format bs a → length a ≡ sum_by batch_length bs
batches_long format [] a p = ap length p
batches_long format (b ∷ bs) a p =
    let first : length p.front ≡ batch_length b = batch_long format b p.front p.first in
    let second : length p.back ≡ sum_by batch_length bs = batches_long format bs p.back p.second in
    ap length p.whole ∙ length-append p.front p.back ∙ rw (first, second) (sym (sum_by-cons batch_length b bs))

-- a batch behind batches
pub batches_more : (format : ℕ) (bs : List (List Record)) (b : List Record) (a part : List ℕ) → SpellsBatches format bs a → SpellsBatch format b part
    → SpellsBatches format (bs ++ b ∷ []) (a ++ part)
batches_more format [] b a part p q = record { front = part; back = []; whole = rw p (sym (append-nil part)); first = q; second = refl }
batches_more format (c ∷ bs) b a part p q = record {
  front = p.front;
  back = p.back ++ part;
  whole = regroup p.front p.back a part p.whole;
  first = p.first;
  second = batches_more format bs b p.back part p.second q;
}

-- batches behind batches
pub batches_append : (format : ℕ) (bs cs : List (List Record)) (a b : List ℕ) → SpellsBatches format bs a → SpellsBatches format cs b
    → SpellsBatches format (bs ++ cs) (a ++ b)
batches_append format [] cs a b p q = rw p q
batches_append format (c ∷ bs) cs a b p q = record {
  front = p.front;
  back = p.back ++ b;
  whole = regroup p.front p.back a b p.whole;
  first = p.first;
  second = batches_append format bs cs p.back b p.second q;
}

pub joined-append : (bs cs : List (List Record)) → joined (bs ++ cs) ≡ joined bs ++ joined cs
joined-append [] cs = refl
joined-append (b ∷ bs) cs = rw (joined-append bs cs) (sym (append_assoc b (joined bs) (joined cs)))

pub joined-snoc : (bs : List (List Record)) (b : List Record) → joined (bs ++ b ∷ []) ≡ joined bs ++ b
joined-snoc bs b = joined-append bs (b ∷ []) ∙ ap (λ (xs : List Record). joined bs ++ xs) (append-nil b)

-- ---- laws

pub counts_one : (format : ℕ) (bs cs : List (List Record)) (area : List ℕ) → Counts format bs area → Counts format cs area → bs ≡ cs
counts_one format bs cs area p q =
    (batches_one format bs cs p.used q.used p.rest q.rest p.spelled q.spelled (sym p.whole ∙ q.whole) (closed_none format p.rest p.ends) (closed_none format q.rest q.ends)).0

pub broken_not_counted : (format : ℕ) (bs : List (List Record)) (area : List ℕ) (at : ℕ) → Counts format bs area → IsBroken format area at → ⊥
broken_not_counted format bs area at p q =
    let e : p.used ++ p.rest ≡ q.used ++ q.rest = sym p.whole ∙ q.whole in
    let one = batches_one format bs q.batches p.used q.used p.rest q.rest p.spelled q.spelled e (closed_none format p.rest p.ends) (record { none = q.none }) in
    let rests : p.rest ≡ q.rest = same_behind p.used q.used p.rest q.rest one.1 e in
    p.ends (ap (λ (xs : List ℕ). get_or xs 0 0) rests ∙ q.gate)

pub broken_once : (format : ℕ) (area : List ℕ) (m n : ℕ) → IsBroken format area m → IsBroken format area n → m ≡ n
broken_once format area m n p q =
    let e : p.used ++ p.rest ≡ q.used ++ q.rest = sym p.whole ∙ q.whole in
    let one = batches_one format p.batches q.batches p.used q.used p.rest q.rest p.spelled q.spelled e (record { none = p.none }) (record { none = q.none }) in
    p.place ∙ ap length one.1 ∙ sym q.place

pub counted_one : (format : ℕ) (area : List ℕ) (rs ss : List Record) (m n : ℕ) → IsCounted format area rs m → IsCounted format area ss n → (rs ≡ ss) × (m ≡ n)
counted_one format area rs ss m n p q =
    let one : p.batches ≡ q.batches = counts_one format p.batches q.batches area p.counted q.counted in
    (sym p.records_are ∙ ap joined one ∙ q.records_are, sym p.used_is ∙ ap (sum_by batch_length) one ∙ q.used_is)

-- ---- how counting goes on

-- A cut: what a list has behind a front that another list has too.
front_is : (front rest other : List ℕ) → take (length front) other ≡ front → other ≡ front ++ drop (length front) other
front_is front rest other same = sym (take-append-drop (length front) other) ∙ ap (λ (xs : List ℕ). xs ++ drop (length front) other) same

-- An area as long, with the same bytes up to the first gate that is not open and that gate, has the same batches.
-- A shorter front of a front.
take_shorter : (m n : ℕ) (xs : List ℕ) → m ≤ n → take m (take n xs) ≡ take m xs
take_shorter zero n xs le = refl
take_shorter (suc m) zero xs le = absurd (omega (arith, le))
take_shorter (suc m) (suc n) [] le = refl
take_shorter (suc m) (suc n) (x ∷ xs) le = ap (λ (ys : List ℕ). x ∷ ys) (take_shorter m n xs (omega (arith, le)))

pub counts_behind : (format : ℕ) (bs : List (List Record)) (area other : List ℕ) → Counts format bs area → length other ≡ length area
    → take (sum_by batch_length bs + 1) other ≡ take (sum_by batch_length bs + 1) area → Counts format bs other
counts_behind format bs area other p len same = record {
  used = p.used;
  rest = drop (length p.used) other;
  whole = front_is p.used p.rest other used_same;
  spelled = p.spelled;
  ends = λ is_open. p.ends (sym gate_same ∙ is_open);
}
  where
    long : sum_by batch_length bs ≡ length p.used
    long = sym (batches_long format bs p.used p.spelled)

    same_more : take (length p.used + 1) other ≡ take (length p.used + 1) area
    same_more = subst (λ (n : ℕ). take (n + 1) other ≡ take (n + 1) area) long same

    used_same : take (length p.used) other ≡ p.used
    used_same = sym (take_shorter (length p.used) (length p.used + 1) other (omega arith)) ∙ ap (take (length p.used)) same_more
        ∙ take_shorter (length p.used) (length p.used + 1) area (omega arith) ∙ ap (take (length p.used)) p.whole ∙ take-append_seam p.used p.rest

    gate_same : get_or (drop (length p.used) other) 0 0 ≡ get_or p.rest 0 0
    gate_same = get_or-drop (length p.used) other 0 0 ∙ sym (get_or-take (length p.used + 1) other (length p.used + 0) 0 (omega arith)) ∙ ap (λ (xs : List ℕ). get_or xs (length p.used + 0) 0) same_more
        ∙ get_or-take (length p.used + 1) area (length p.used + 0) 0 (omega arith) ∙ ap (λ (xs : List ℕ). get_or xs (length p.used + 0) 0) p.whole ∙ get_or-append-add p.used p.rest 0 0

-- A batch over the first gate that is not open, with no open gate behind it, is one more.
pub counts_more : (format : ℕ) (bs : List (List Record)) (b : List Record) (area other part rest : List ℕ) (p : Counts format bs area) → SpellsBatch format b part
    → other ≡ p.used ++ part ++ rest → IsClosed rest → Counts format (bs ++ b ∷ []) other
counts_more format bs b area other part rest p q whole ends = record {
  used = p.used ++ part;
  rest = rest;
  whole = whole;
  spelled = batches_more format bs b p.used part p.spelled q;
  ends = ends;
}

-- the batches' bytes are the first of the area
pub counts_front : (format : ℕ) (bs : List (List Record)) (area : List ℕ) (p : Counts format bs area) → take (sum_by batch_length bs) area ≡ p.used
counts_front format bs area p =
    ap (take (sum_by batch_length bs)) p.whole ∙ take_at p.used p.rest (sum_by batch_length bs) (batches_long format bs p.used p.spelled)

-- the same, with the batches' bytes as the first of the area
pub counts_more_at : (format : ℕ) (bs : List (List Record)) (b : List Record) (area other part rest : List ℕ) → Counts format bs area → SpellsBatch format b part
    → other ≡ take (sum_by batch_length bs) area ++ part ++ rest → IsClosed rest → Counts format (bs ++ b ∷ []) other
counts_more_at format bs b area other part rest p q whole ends =
    counts_more format bs b area other part rest p q (whole ∙ ap (λ (xs : List ℕ). xs ++ part ++ rest) (counts_front format bs area p)) ends

-- ---- reading an area

-- batches stand before the rest, and their records are these
pub record IsReadTo (area rest : List ℕ) (records : List Record) : Type 0 where
  pub batches : List (List Record)
  pub used : List ℕ
  pub whole : area ≡ used ++ rest
  pub spelled : SpellsBatches 1 batches used
  pub records_are : joined batches ≡ records

pub read_none : (area : List ℕ) → IsReadTo area area []
read_none area = record { batches = []; used = []; whole = refl; spelled = refl; records_are = refl }

pub read_more : (area rest behind : List ℕ) (n : ℕ) (records more : List Record) → IsReadTo area rest records → AddsBatch rest n records more → behind ≡ drop n rest
    → IsReadTo area behind more
read_more area rest behind n records more r adds is = record {
  batches = r.batches ++ adds.batch ∷ [];
  used = r.used ++ take n rest;
  whole = r.whole ∙ ap (λ (xs : List ℕ). r.used ++ xs) (sym (take-append-drop n rest) ∙ ap (λ (xs : List ℕ). take n rest ++ xs) (sym is)) ∙ sym (append_assoc r.used (take n rest) behind);
  spelled = batches_more 1 r.batches adds.batch r.used (take n rest) r.spelled adds.spelled;
  records_are = joined-snoc r.batches adds.batch ∙ ap (λ (rs : List Record). rs ++ adds.batch) r.records_are ∙ sym adds.added;
}

-- how many bytes the batches take
read_long : (area rest : List ℕ) (records : List Record) (r : IsReadTo area rest records) → length area - length rest ≡ length r.used
read_long area rest records r = omega (arith, ap length r.whole, length-append r.used rest)

pub read_whole : (format : ℕ) (area rest : List ℕ) (records : List Record) → format ≡ 1 → IsReadTo area rest records → IsClosed rest
    → IsCounted format area records (length area - length rest)
read_whole format area rest records is r ends = subst (λ (f : ℕ). IsCounted f area records (length area - length rest)) (sym is) (record {
  batches = r.batches;
  counted = record { used = r.used; rest = rest; whole = r.whole; spelled = r.spelled; ends = ends };
  records_are = r.records_are;
  used_is = sym (batches_long 1 r.batches r.used r.spelled) ∙ sym (read_long area rest records r);
})

pub read_broken : (format : ℕ) (area rest : List ℕ) (records : List Record) → format ≡ 1 → IsReadTo area rest records → get_or rest 0 0 ≡ 1 → HasNone 1 rest
    → IsBroken format area (length area - length rest)
read_broken format area rest records is r gate none = subst (λ (f : ℕ). IsBroken f area (length area - length rest)) (sym is) (record {
  batches = r.batches;
  used = r.used;
  rest = rest;
  whole = r.whole;
  spelled = r.spelled;
  place = read_long area rest records r;
  gate = gate;
  none = none.none;
})

pub told_place : {T : Type 0} (m n : ℕ) → ◌≡◌ {A = Result T BatchFault} (Err (Broken m)) (Err (Broken n)) → m ≡ n
told_place m n e = cc
