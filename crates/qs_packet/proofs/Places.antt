-- Where a reader stands once it has taken something.
use Rattle.std.proofs.Common.{◌≡◌, ◌+◌, ℕ, List, length, length-append, ap, arith}
use Rattle.qs_codec.specs.Grammar.{Field}
use Rattle.qs_codec.specs.Reading.{Reading, Reads, left_of}
use Rattle.qs_record.specs.Reading.{Takes}

pub read_on : (f : Field) (len : ℕ) (a b : Reading) → len ≡ a.at + length (left_of a) → Reads f a b → len ≡ b.at + length (left_of b)
read_on f len a b e p =
    let long : length (left_of a) ≡ length p.part + length (left_of b) = rw p.whole (length-append p.part (left_of b)) in
    let at : b.at ≡ a.at + length p.part = ap (λ (r : Reading). r.at) p.moved in
    omega (arith, e, long, at)

pub taken_on : {P : List ℕ → Type 0} (len : ℕ) (a b : Reading) → len ≡ a.at + length (left_of a) → Takes P a b → len ≡ b.at + length (left_of b)
taken_on len a b e p =
    let long : length (left_of a) ≡ length p.part + length (left_of b) = rw p.whole (length-append p.part (left_of b)) in
    let at : b.at ≡ a.at + length p.part = ap (λ (r : Reading). r.at) p.moved in
    omega (arith, e, long, at)
