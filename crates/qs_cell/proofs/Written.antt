-- What is done with the lanes as a slice is done with the cell's own.
use Rattle.std.proofs.Common.{◌≡◌, ap, subst, sym, refl, ℕ, zero, suc, List, [], ◌∷◌, ◌++◌, length, take, arith}
use Rattle.std.specs.Prelude.{Result}
use Rattle.qs_base.specs.declared.identifiers.ClientNo.{ClientNo}
use Rattle.qs_base.specs.declared.memory.NoMemory.{NoMemory}
use Rattle.qs_book_journal.specs.declared.script_line.LineAnswer.{LineAnswer}
use Rattle.qs_book_journal.specs.declared.script_line.ScriptLine.{ScriptLine}
use Rattle.qs_link.specs.Lanes.{ends_of, CarriesIn, CarriesOut}
use Rattle.qs_link.specs.declared.ends.NodeEnds.{NodeEnds}
use Rattle.qs_link.specs.Lane.{FeedValue, DrawValue}

whole : (len : ℕ) (new rest : List NodeEnds) → length new ≡ len → take len (new ++ rest) ≡ new
whole zero [] rest e = refl
whole zero (x ∷ xs) rest e = absurd (omega (arith, e))
whole (suc n) [] rest e = absurd (omega (arith, e))
whole (suc n) (x ∷ xs) rest e = ap (λ (l : List NodeEnds). x ∷ l) (whole n xs rest (omega (arith, e)))

pub carried_in : (client : ClientNo) (from_old from_new : FeedValue ScriptLine) (slice old new rest : List NodeEnds) (len : ℕ) (answer : Result ℕ NoMemory) → slice ≡ old
    → length new ≡ len → CarriesIn client from_old from_new slice new answer (ends_of client slice)
    → CarriesIn client from_old from_new old (take len (new ++ rest)) answer (ends_of client old)
carried_in client from_old from_new slice old new rest len answer is long carries =
    subst (λ (l : List NodeEnds). CarriesIn client from_old from_new old l answer (ends_of client old)) (sym (whole len new rest long))
    (subst (λ (l : List NodeEnds). CarriesIn client from_old from_new l new answer (ends_of client l)) is carries)

pub carried_out : (client : ClientNo) (to_old to_new : DrawValue LineAnswer) (slice old new rest : List NodeEnds) (len : ℕ) (answer : Result ℕ NoMemory) → slice ≡ old
    → length new ≡ len → CarriesOut client to_old to_new slice new answer (ends_of client slice)
    → CarriesOut client to_old to_new old (take len (new ++ rest)) answer (ends_of client old)
carried_out client to_old to_new slice old new rest len answer is long carries =
    subst (λ (l : List NodeEnds). CarriesOut client to_old to_new old l answer (ends_of client old)) (sym (whole len new rest long))
    (subst (λ (l : List NodeEnds). CarriesOut client to_old to_new l new answer (ends_of client l)) is carries)
