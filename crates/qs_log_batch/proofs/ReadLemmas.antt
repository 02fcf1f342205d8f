-- Records that are read one behind the other.
use Rattle.std.proofs.Common.{◌≡◌, ◌≢◌, ◌≤◌, ◌<◌, ◌+◌, ℕ, nat_eq, List, [], ◌∷◌, ◌++◌, length, refl, ap, ◌∙◌, sym, subst, append_assoc, append-nil, arith, length-append, inl, inr}
use Rattle.std.proofs.lemmas.List.{nil_from_length}
use Rattle.std.proofs.lemmas.Bool.Decides.{eqb_tells}
use Rattle.qs_codec.specs.declared.fault.CodecFault.{CodecFault}
use Rattle.qs_record.specs.declared.fault.RecordFault.{RecordFault}
use Rattle.qs_record.specs.declared.fault.RecordFault.TheVariants.{Codec, NoMemory}
use Rattle.qs_codec.specs.Reading.{Reading, left_of, reading_at}
use Rattle.qs_record.specs.declared.record.Record.{Record}
use Rattle.qs_record.specs.Grammar.{SpellsRecord, record_length}
use Rattle.qs_record.specs.Reading.{IsAhead, Takes}
use Rattle.qs_log_batch.specs.Batch.{SpellsRecords}
use Rattle.qs_log_batch.specs.Reading.{AddsRecords, LacksRecords, Decides}
use Rattle.qs_log_batch.proofs.Fronts.{regroup, same_behind}
use Rattle.qs_record.proofs.Fronts.{record_front}
use Rattle.qs_record.proofs.Lengths.{record_long}
use Rattle.qs_log_batch.proofs.RecordsLemmas.{records_front, records_more}

-- so many records were read and added, and the reader stands behind them
pub record IsUnderWay (turn : ℕ) (body : List ℕ) (before : List Record) (reader : Reading) (records : List Record) : Type 0 where
  pub found : List Record
  pub part : List ℕ
  pub counted : length found ≡ turn
  pub spelled : SpellsRecords found part
  pub whole : body ≡ part ++ left_of reader
  pub added : records ≡ before ++ found

pub underway_begun : (body : List ℕ) (before : List Record) → IsUnderWay 0 body before (reading_at body 0) before
underway_begun body before = record {
  found = [];
  part = [];
  counted = refl;
  spelled = refl;
  whole = refl;
  added = sym (append-nil before);
}

pub underway_more : (turn : ℕ) (body : List ℕ) (before : List Record) (reader after : Reading) (records : List Record) (r : Record)
    → IsUnderWay turn body before reader records → Takes (SpellsRecord r) reader after → IsUnderWay (turn + 1) body before after (records ++ r ∷ [])
underway_more turn body before reader after records r u takes = record {
  found = u.found ++ r ∷ [];
  part = u.part ++ takes.part;
  counted = length-append u.found (r ∷ []) ∙ ap (λ (n : ℕ). n + 1) u.counted;
  spelled = records_more u.found r u.part takes.part u.spelled takes.spelled;
  whole = u.whole ∙ ap (λ (xs : List ℕ). u.part ++ xs) takes.whole ∙ sym (append_assoc u.part takes.part (left_of after));
  added = ap (λ (rs : List Record). rs ++ r ∷ []) u.added ∙ append_assoc before u.found (r ∷ []);
}

-- where more records are spelled than were read, one stands ahead
records_next : (fs rs : List Record) (a b : List ℕ) (reader : Reading) → SpellsRecords fs a → SpellsRecords rs b → b ≡ a ++ left_of reader → length fs < length rs
    → (r : Record) × IsAhead (SpellsRecord r) reader
records_next [] [] a b reader p q whole fewer = absurd (omega (arith, fewer))
records_next [] (r ∷ rs) a b reader p q whole fewer = (
  r,
  record {
    part = q.front;
    rest = q.back;
    spelled = q.first;
    whole = ap (λ (xs : List ℕ). xs ++ left_of reader) (sym p) ∙ sym whole ∙ q.whole;
  },
)
records_next (f ∷ fs) [] a b reader p q whole fewer = absurd (omega (arith, fewer))
records_next (f ∷ fs) (r ∷ rs) a b reader p q whole fewer =
    let e : q.front ++ q.back ≡ p.front ++ (p.back ++ left_of reader) = sym q.whole ∙ whole ∙ regroup p.front p.back a (left_of reader) p.whole in
    let one = record_front r f q.front p.front q.back (p.back ++ left_of reader) q.first p.first e in
    let rests : q.back ≡ p.back ++ left_of reader = same_behind q.front p.front q.back (p.back ++ left_of reader) one.1 e in
    records_next fs rs p.back q.back reader p.second q.second rests (omega (arith, fewer))

-- where none stands ahead before the last, the bytes are not so many records
pub underway_lacks : (turn count : ℕ) (body : List ℕ) (before : List Record) (reader : Reading) (records : List Record) → IsUnderWay turn body before reader records
    → turn < count → ((r : Record) → IsAhead (SpellsRecord r) reader → ⊥) → LacksRecords count body
underway_lacks turn count body before reader records u fewer none = record {
  none = λ rs counted spelled.
      let next = records_next u.found rs u.part body reader u.spelled spelled u.whole (omega (arith, u.counted, counted, fewer)) in
      none next.0 next.1;
}

-- after the last, the bytes are so many records where none are left
pub underway_done : (count left : ℕ) (body : List ℕ) (before : List Record) (reader : Reading) (records : List Record) → IsUnderWay count body before reader records
    → left ≡ length (left_of reader) → Decides (nat_eq left 0) count body before records
underway_done count left body before reader records u is =
    elim (eqb_tells left 0) [
      | inl none ↦ rw none.0 (whole none.1)
      | inr some ↦ rw some.0 (more some.1)
    ]
  where
    whole : left ≡ 0 → AddsRecords count body before records
    whole none = record {
      records = u.found;
      counted = u.counted;
      spelled = subst (SpellsRecords u.found) (sym (u.whole ∙ ap (λ (xs : List ℕ). u.part ++ xs) (nil_from_length (left_of reader) (sym is ∙ none)) ∙ append-nil u.part)) u.spelled;
      added = u.added;
    }

    more : left ≢ 0 → LacksRecords count body
    more some = record {
      none = λ rs counted spelled.
          let one = records_front rs u.found body u.part [] (left_of reader) (counted ∙ sym u.counted) spelled u.spelled (append-nil body ∙ u.whole) in
          some (omega (arith, ap length one.1, ap length u.whole, length-append u.part (left_of reader), is));
    }

-- after a fault of the codec no record stands ahead, where one would have been answered, or want of memory
pub codec_none : (reader : Reading) (answer : RecordFault) (fault : CodecFault) → answer ≡ Codec fault → ((r : Record) → IsAhead (SpellsRecord r) reader → answer ≡ NoMemory)
    → (r : Record) → IsAhead (SpellsRecord r) reader → ⊥
codec_none reader answer fault is only r p = differ (sym is ∙ only r p)
  where
    differ : Codec fault ≡ NoMemory → ⊥
    differ e = cc

-- a record that was read is no longer than what it was read from
pub taken_short : (r : Record) (bytes : List ℕ) (after : Reading) → Takes (SpellsRecord r) (reading_at bytes 0) after → record_length r ≤ length bytes
taken_short r bytes after t = omega (arith, record_long r t.part t.spelled, ap length t.whole, length-append t.part (left_of after))
