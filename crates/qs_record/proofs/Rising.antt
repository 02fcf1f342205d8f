-- Nodes and changes that are read one after the other.
use Rattle.std.proofs.Common.{◌≡◌, ◌+◌, ◌-◌, ◌≤◌, ◌<◌, ℕ, suc, List, [], ◌∷◌, ◌++◌, length, map, true, nat_le, Result, Ok, Err, subst, refl, ap, ◌∙◌, sym, append_assoc, append-nil, length-append, arith}
use Rattle.std.proofs.lemmas.List.{map-append}
use Rattle.qs_base.specs.declared.identifiers.NodeNo.{NodeNo}
use Rattle.qs_codec.specs.declared.fault.CodecFault.{CodecFault}
use Rattle.qs_codec.specs.Grammar.{Field, Byte, Spells}
use Rattle.qs_codec.specs.Reading.{Reading, Reads}
use Rattle.qs_record.specs.Grammar.{Joined, SpellsAll, is_node, is_rising, node_field}
use Rattle.qs_record.specs.Reading.{Takes, TakesRising, then_at, byte_where, is_node_from, rising_at}
use Rattle.qs_record.proofs.Nodes.{both_hold}
use Rattle.qs_record.proofs.Readers.{takes_none, takes_field, takes_joined, takes_as}
use Rattle.qs_record.proofs.Writers.{all_more}

-- ---- what is found behind items that were found

abbrev pub prepended : {A : Type 0} → List A → Result (List A × Reading) CodecFault → Result (List A × Reading) CodecFault
prepended done (Ok found) = Ok (done ++ found.0, found.1)
prepended done (Err fault) = Err fault

-- one item more
pub prepended_more : {A : Type 0} (done : List A) (x : A) (rest : Result (List A × Reading) CodecFault)
    → prepended done (then_at rest (λ xs after. Ok (x ∷ xs, after))) ≡ prepended (done ++ x ∷ []) rest
prepended_more {A} done x (Ok found) = ap (λ (xs : List A). Ok (xs, found.1)) (sym (append_assoc done (x ∷ []) found.0))
prepended_more done x (Err fault) = refl

pub prepended_none : {A : Type 0} (rest : Result (List A × Reading) CodecFault) → rest ≡ prepended [] rest
prepended_none (Ok found) = refl
prepended_none (Err fault) = refl

-- ---- nodes

-- so many of the nodes were read, and the next is at or above the least that may come
pub record RisingRead (count turn least : ℕ) (nodes : List NodeNo) (first here : Reading) : Type 0 where
  pub found : rising_at count 0 first ≡ prepended nodes (rising_at (count - turn) least here)
  pub counted : length nodes ≡ turn
  pub valid : (more : List NodeNo) → is_rising least more ≡ true → is_rising 0 (nodes ++ more) ≡ true
  pub taken : Takes (SpellsAll (map node_field nodes)) first here

pub rising_begun : (count : ℕ) (r : Reading) → RisingRead count 0 0 [] r r
rising_begun count r = record {
  found = prepended_none (rising_at count 0 r) ∙ ap (λ (k : ℕ). prepended [] (rising_at k 0 r)) (omega arith);
  counted = refl;
  valid = λ more is. is;
  taken = takes_none (SpellsAll []) r refl;
}

-- a node that rises is the next
rising_next : (least n : ℕ) (nodes more : List NodeNo) → is_node_from least n ≡ true
    → ((others : List NodeNo) → is_rising least others ≡ true → is_rising 0 (nodes ++ others) ≡ true)
    → is_rising (n + 1) more ≡ true → is_rising 0 ((nodes ++ record { 0 = n } ∷ []) ++ more) ≡ true
rising_next least n nodes more from valid is =
    let node : NodeNo = record { 0 = n } in
    let both = both_hold (nat_le least n) (is_node n) from in
    let rises : is_rising least (node ∷ more) ≡ true = rw (both.0, both.1, is) refl in
    subst (λ (ns : List NodeNo). is_rising 0 ns ≡ true) (sym (append_assoc nodes (node ∷ []) more)) (valid (node ∷ more) rises)

rising_step : (turn count least n : ℕ) (nodes : List NodeNo) (here next : Reading) → turn < count → byte_where (is_node_from least) here ≡ Ok (n, next)
    → prepended nodes (rising_at (count - turn) least here) ≡ prepended (nodes ++ record { 0 = n } ∷ []) (rising_at (count - (turn + 1)) (n + 1) next)
unfolding rising_at
rising_step turn count least n nodes here next below e =
    let left : count - turn ≡ suc (count - (turn + 1)) = omega arith in
    let node : NodeNo = record { 0 = n } in
    rw (left, e) (prepended_more nodes node (rising_at (count - (turn + 1)) (n + 1) next))

-- one field more
takes_more : (node : NodeNo) (nodes : List NodeNo) (a b c : Reading) → Takes (SpellsAll (map node_field nodes)) a b → Reads (Byte node.0) b c
    → Takes (SpellsAll (map node_field (nodes ++ node ∷ []))) a c
takes_more node nodes a b c p q =
    let both = takes_joined (SpellsAll (map node_field nodes)) (Spells (Byte node.0)) a b c p (takes_field (Byte node.0) b c q) in
    takes_as (Joined (SpellsAll (map node_field nodes)) (Spells (Byte node.0))) (SpellsAll (map node_field (nodes ++ node ∷ []))) a c (as_fields node nodes) both
  where
    as_fields : (node : NodeNo) (nodes : List NodeNo) (part : List ℕ) → Joined (SpellsAll (map node_field nodes)) (Spells (Byte node.0)) part
        → SpellsAll (map node_field (nodes ++ node ∷ [])) part
    as_fields node nodes part j =
        let more = all_more (map node_field nodes) (node_field node) j.front j.back j.first j.second in
        subst (λ (fs : List Field). SpellsAll fs part) (sym (map-append node_field nodes (node ∷ [])))
        (subst (λ (xs : List ℕ). SpellsAll (map node_field nodes ++ node_field node ∷ []) xs) (sym j.whole) more)

pub rising_on : (count turn least n : ℕ) (nodes : List NodeNo) (first here next : Reading) → turn < count → RisingRead count turn least nodes first here
    → byte_where (is_node_from least) here ≡ Ok (n, next) → is_node_from least n ≡ true → Reads (Byte n) here next
    → RisingRead count (turn + 1) (n + 1) (nodes ++ record { 0 = n } ∷ []) first next
rising_on count turn least n nodes first here next below old e from read =
    let node : NodeNo = record { 0 = n } in
    record {
      found = old.found ∙ rising_step turn count least n nodes here next below e;
      counted = length-append nodes (node ∷ []) ∙ ap (λ (k : ℕ). k + 1) old.counted;
      valid = λ more is. rising_next least n nodes more from old.valid is;
      taken = takes_more node nodes first here next old.taken read;
    }

-- a node that does not rise ends it
pub rising_ended : (count turn least : ℕ) (nodes : List NodeNo) (first here : Reading) (fault : CodecFault) → turn < count → RisingRead count turn least nodes first here
    → byte_where (is_node_from least) here ≡ Err fault → rising_at count 0 first ≡ Err fault
unfolding rising_at
rising_ended count turn least nodes first here fault below old e =
    let left : count - turn ≡ suc (count - (turn + 1)) = omega arith in
    old.found ∙ rw (left, e) refl

pub rising_done : (count turn least : ℕ) (nodes : List NodeNo) (first here : Reading) → count ≤ turn → RisingRead count turn least nodes first here
    → rising_at count 0 first ≡ Ok (nodes, here)
unfolding rising_at
rising_done count turn least nodes first here all old =
    let none : count - turn ≡ 0 = omega arith in
    old.found ∙ rw (none, append-nil) refl

pub rising_taken : (count turn least : ℕ) (nodes : List NodeNo) (first here : Reading) → count ≡ turn → RisingRead count turn least nodes first here
    → TakesRising count first here nodes
rising_taken count turn least nodes first here all old = record {
  counted = old.counted ∙ sym all;
  valid = subst (λ (ns : List NodeNo). is_rising 0 ns ≡ true) (append-nil nodes) (old.valid [] refl);
  taken = old.taken;
}
