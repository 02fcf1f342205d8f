-- Records that are read.
use Rattle.std.proofs.Common.{◌≡◌, ℕ, List, [], ◌∷◌, true, Result, Ok, Err, IfOk}
use Rattle.qs_base.specs.declared.identifiers.NodeNo.{NodeNo}
use Rattle.qs_base.specs.declared.identifiers.Tid.{Tid}
use Rattle.qs_codec.specs.Grammar.{Byte, Word, Spells}
use Rattle.qs_codec.specs.Reading.{Reading, Reads}
use Rattle.qs_ops.specs.declared.operation.Op.{Op}
use Rattle.qs_record.specs.declared.record.Record.{Record}
use Rattle.qs_record.specs.declared.record.Record.TheVariants.{Prepare, Commit, Aborted, End}
use Rattle.qs_record.specs.Grammar.{Joined, SpellsAll, is_server, SpellsTid, SpellsNodes, SpellsChanges, SpellsRecord}
use Rattle.qs_record.specs.Reading.{Takes, TakesRecord}
use Rattle.qs_record.proofs.Readers.{takes_field, takes_two, takes_joined, takes_as}

pub prepare_taken : (tid : Tid) (server covers : ℕ) (changes : List Op) (a b c d e : Reading) → is_server server ≡ true → Takes (SpellsTid tid) a b → Reads (Byte server) b c
    → Reads (Word covers) c d → Takes (SpellsChanges changes) d e → TakesRecord 1 a e (Prepare tid (record { 0 = server }) covers changes)
prepare_taken tid server covers changes a b c d e is p q r s =
    let Share : List ℕ → Type 0 = SpellsAll (Byte server ∷ Word covers ∷ []) in
    let share : Takes (Joined Share (SpellsChanges changes)) b e = takes_joined Share (SpellsChanges changes) b d e (takes_two (Byte server) (Word covers) b c d q r) s in
    let Behind : List ℕ → Type 0 = Joined (SpellsTid tid) (Joined Share (SpellsChanges changes)) in
    let behind : Takes Behind a e = takes_joined (SpellsTid tid) (Joined Share (SpellsChanges changes)) a b e p share in
    record {
      taken = λ before tag.
          takes_as (Joined (Spells (Byte 1)) Behind) (SpellsRecord (Prepare tid (record { 0 = server }) covers changes)) before e (λ part whole. (is, whole))
          (takes_joined (Spells (Byte 1)) Behind before a e (takes_field (Byte 1) before a tag) behind);
    }

pub commit_taken : (tid : Tid) (told : List NodeNo) (a b c : Reading) → Takes (SpellsTid tid) a b → Takes (SpellsNodes told) b c → TakesRecord 2 a c (Commit tid told)
commit_taken tid told a b c p q = record {
  taken = λ before tag.
      takes_joined (Spells (Byte 2)) (Joined (SpellsTid tid) (SpellsNodes told)) before a c (takes_field (Byte 2) before a tag)
      (takes_joined (SpellsTid tid) (SpellsNodes told) a b c p q);
}

pub aborted_taken : (tid : Tid) (a b : Reading) → Takes (SpellsTid tid) a b → TakesRecord 3 a b (Aborted tid)
aborted_taken tid a b p = record { taken = λ before tag. takes_joined (Spells (Byte 3)) (SpellsTid tid) before a b (takes_field (Byte 3) before a tag) p }

pub end_taken : (tid : Tid) (a b : Reading) → Takes (SpellsTid tid) a b → TakesRecord 4 a b (End tid)
end_taken tid a b p = record { taken = λ before tag. takes_joined (Spells (Byte 4)) (SpellsTid tid) before a b (takes_field (Byte 4) before a tag) p }

-- a tag and what stands behind it
pub record_answered : {E : Type 0} (result : Result Record E) (tag : ℕ) (a b c : Reading) → Reads (Byte tag) a b → IfOk result (TakesRecord tag b c)
    → IfOk result (λ rec. Takes (SpellsRecord rec) a c)
record_answered (Ok rec) tag a b c p q = q.taken a p
record_answered (Err e) tag a b c p q = tt
