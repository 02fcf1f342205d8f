-- What an area counts where some of its bytes change.
use Rattle.std.proofs.Common.{◌≡◌, ◌≢◌, ◌≤◌, ◌<◌, ◌+◌, ℕ, List, [], ◌∷◌, ◌++◌, length, get_or, take, drop, sym, ◌∙◌, ap, subst, arith, append_assoc, inl, inr}
use Rattle.std.proofs.lemmas.List.{length-append, take-append-drop, drop_more, get_or-drop, get_or_past, drop-drop}
use Rattle.std.proofs.lemmas.List.Sums.{sum_by_push}
use Rattle.std.proofs.lemmas.Bool.{cases_lt}
use Rattle.qs_log_batch.specs.Batch.{SpellsBatch, IsCounted, IsBroken, batch_length}
use Rattle.qs_disk.specs.Disk.{range, Torn}
use Rattle.qs_log_batch.proofs.AreaLemmas.{batches_long, counts_front, counts_behind, counts_more, joined-snoc}
use Rattle.qs_record.specs.declared.record.Record.{Record}

-- the counted batches take the first bytes of an area
counted_long : (format : ℕ) (area : List ℕ) (records : List Record) (used : ℕ) (c : IsCounted format area records used) → length c.counted.used ≡ used
counted_long format area records used c = batches_long format c.batches c.counted.used c.counted.spelled ∙ c.used_is

front_of : (format : ℕ) (area : List ℕ) (records : List Record) (used : ℕ) (c : IsCounted format area records used) → take used area ≡ c.counted.used
front_of format area records used c = subst (λ (n : ℕ). take n area ≡ c.counted.used) c.used_is (counts_front format c.batches area c.counted)

-- the counted batches lie within the area
pub counted_within : (format : ℕ) (area : List ℕ) (records : List Record) (used : ℕ) → IsCounted format area records used → used ≤ length area
counted_within format area records used c =
    omega (arith, counted_long format area records used c, ap length c.counted.whole ∙ length-append c.counted.used c.counted.rest)

-- and so does a place where it is broken
pub broken_within : (format : ℕ) (area : List ℕ) (at : ℕ) → IsBroken format area at → at ≤ length area
broken_within format area at b = omega (arith, b.place, ap length b.whole ∙ length-append b.used b.rest)

-- another area with the same counted batches, and a closed gate behind them
pub counted_closed : (format : ℕ) (area other : List ℕ) (records : List Record) (used : ℕ) → IsCounted format area records used → take used other ≡ take used area
    → get_or other used 0 ≢ 1 → IsCounted format other records used
counted_closed format area other records used c same closed = record {
  batches = c.batches;
  counted = record {
    used = c.counted.used;
    rest = drop used other;
    whole = sym (take-append-drop used other) ∙ ap (λ (xs : List ℕ). xs ++ drop used other) (same ∙ front_of format area records used c);
    spelled = c.counted.spelled;
    ends = λ is_open. closed (subst (λ (n : ℕ). get_or other n 0 ≡ 1) (omega arith) (sym (get_or-drop used other 0 0) ∙ is_open));
  };
  records_are = c.records_are;
  used_is = c.used_is;
}

-- another area with the same counted batches and the same gate behind them
pub counted_behind : (format count : ℕ) (area other : List ℕ) (records : List Record) (used : ℕ) → IsCounted format area records used → Torn (used + 1) count area other
    → IsCounted format other records used
counted_behind format count area other records used c torn = record {
  batches = c.batches;
  counted = counts_behind format c.batches area other c.counted torn.as_long (subst (λ (n : ℕ). take (n + 1) other ≡ take (n + 1) area) (sym c.used_is) torn.before);
  records_are = c.records_are;
  used_is = c.used_is;
}

-- an open gate stands within the area
gate_within : (area : List ℕ) (at : ℕ) → get_or area at 0 ≡ 1 → at < length area
gate_within area at is_open = elim (cases_lt at (length area)) [ inl within ↦ within | inr past ↦ absurd (omega (arith, sym (get_or_past area at 0 past) ∙ is_open)) ]

-- the bytes behind a gate, and the gate with what is behind these
staged_rest : (used : ℕ) (part other : List ℕ) → range (used + 1) (length part + 1) other ≡ part ++ 0 ∷ [] → get_or other used 0 ≡ 1
    → drop used other ≡ (1 ∷ part) ++ 0 ∷ drop (used + 1 + (length part + 1)) other
staged_rest used part other staged is_open =
    let within : used < length other = gate_within other used is_open in
    let tail : List ℕ = drop (used + 1 + (length part + 1)) other in
    let behind : drop (used + 1) other ≡ (part ++ 0 ∷ []) ++ tail =
    sym (take-append-drop (length part + 1) (drop (used + 1) other))
    ∙ ap (λ (xs : List ℕ). xs ++ drop (length part + 1) (drop (used + 1) other)) staged
    ∙ ap (λ (xs : List ℕ). (part ++ 0 ∷ []) ++ xs) (drop-drop (length part + 1) (used + 1) other) in
    drop_more other used 0 within
    ∙ ap (λ (b : ℕ). b ∷ drop (used + 1) other) is_open
    ∙ ap (λ (xs : List ℕ). 1 ∷ xs) (behind ∙ append_assoc part (0 ∷ []) tail)

-- another area with the same counted batches, and a batch with its gate open and the next one closed
pub counted_whole : (area other : List ℕ) (records waiting : List Record) (used : ℕ) (part : List ℕ) → IsCounted 1 area records used → take used other ≡ take used area
    → SpellsBatch 1 waiting (1 ∷ part) → range (used + 1) (length part + 1) other ≡ part ++ 0 ∷ [] → get_or other used 0 ≡ 1
    → IsCounted 1 other (records ++ waiting) (used + batch_length waiting)
counted_whole area other records waiting used part c same spelled staged is_open =
    let tail : List ℕ = drop (used + 1 + (length part + 1)) other in
    let whole : other ≡ c.counted.used ++ (1 ∷ part) ++ 0 ∷ tail =
    sym (take-append-drop used other) ∙ ap (λ (xs : List ℕ). xs ++ drop used other) (same ∙ front_of 1 area records used c)
    ∙ ap (λ (xs : List ℕ). c.counted.used ++ xs) (staged_rest used part other staged is_open) ∙ sym (append_assoc c.counted.used (1 ∷ part) (0 ∷ tail)) in
    record {
      batches = c.batches ++ waiting ∷ [];
      counted = counts_more 1 c.batches waiting area other (1 ∷ part) (0 ∷ tail) c.counted spelled whole (λ is_one. absurd (omega (arith, is_one)));
      records_are = joined-snoc c.batches waiting ∙ ap (λ (rs : List Record). rs ++ waiting) c.records_are;
      used_is = sum_by_push batch_length c.batches waiting ∙ ap (λ (n : ℕ). n + batch_length waiting) c.used_is;
    }
