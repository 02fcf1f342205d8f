-- An end of a link is read and written in its place: a packet is taken of it, and a link between two nodes is carried.
use Rattle.std.proofs.Common.{◌≡◌, ◌≢◌, ℕ, ◌+◌, ◌<◌, ◌==◌, not, true, List, Option, Some, Result, ap, get_or, length, set, slice_get, subst, sym, ◌∙◌}
use Rattle.std.proofs.lemmas.Bool.{eqb-false, not-true}
use Rattle.std.proofs.lemmas.List.{get_or_read}
use Rattle.std.proofs.lemmas.Option.{slice_get-get_or}
use Rattle.qs_base.specs.declared.memory.NoMemory.{NoMemory}
use Rattle.qs_link.specs.Lane.{DrawValue}
use Rattle.qs_link.specs.Link.{Took}
use Rattle.qs_link.specs.Plan.{OutgoingValue}
use Rattle.qs_packet.specs.declared.packet.Packet.{Packet}
use Rattle.qs_cell_peers.specs.Links.{HasCarried}
use Rattle.qs_cell_peers.specs.Peers.{is_peer, place}
use Rattle.qs_cell_peers.proofs.Places.{elsewhere, peer_is, place_below, there}

-- what is read and written in the place of a peer
pub read_there : {A : Type 0} (xs : List A) (n m at : ℕ) (old d : A) → n < length xs + 1 → is_peer (length xs + 1) n m ≡ true → at ≡ place n m → old ≡ get_or xs at old → get_or xs (place n m) d ≡ old
read_there {A} xs n m at old d lt peer at_is is = sym (get_or_read xs (place n m) old (place_below (length xs) n m lt peer) (subst (λ (i : ℕ). old ≡ get_or xs i old) at_is is) d)

pub found_there : {A : Type 0} (xs given : List A) (n m : ℕ) (d : A) → xs ≡ given → n < length xs + 1 → is_peer (length xs + 1) n m ≡ true → slice_get given (place n m) ≡ Some (get_or xs (place n m) d)
found_there {A} xs given n m d same lt peer = subst (λ (l : List A). slice_get l (place n m) ≡ Some (get_or xs (place n m) d)) same (slice_get-get_or xs (place n m) d (place_below (length xs) n m lt peer))

pub written_there : {A : Type 0} (xs : List A) (n m at : ℕ) (x d : A) → n < length xs + 1 → is_peer (length xs + 1) n m ≡ true → at ≡ place n m → get_or (set xs at x) (place n m) d ≡ x
written_there {A} xs n m at x d lt peer at_is = ap (λ (i : ℕ). get_or (set xs i x) (place n m) d) at_is ∙ there xs n m x d lt peer

-- and in the place of another one nothing is
pub kept_there : {A : Type 0} (xs : List A) (n m at : ℕ) (x d : A) → is_peer (length xs + 1) n m ≡ true → at ≡ place n m → (k : ℕ) → k ≢ n → not (k == m) ≡ true → get_or (set xs at x) (place n k) d ≡ get_or xs (place n k) d
kept_there {A} xs n m at x d peer at_is k k_other apart =
    ap (λ (i : ℕ). get_or (set xs i x) (place n k) d) at_is ∙ elsewhere xs n m x d k (peer_is (length xs + 1) n m peer).1 k_other (eqb-false k m (not-true (k == m) apart))

pub took_as : (result : Result (Option Packet) NoMemory) (i j was is : DrawValue Packet) → i ≡ was → j ≡ is → Took result was is → Took result i j
took_as result i j was is i_is j_is took = subst (λ (x : DrawValue Packet). Took result x j) (sym i_is) (subst (λ (x : DrawValue Packet). Took result was x) (sym j_is) took)

pub carried_as : (result : Result ℕ NoMemory) (o p old new : OutgoingValue) (i j was is : DrawValue Packet) → o ≡ old → p ≡ new → i ≡ was → j ≡ is → HasCarried result old new was is → HasCarried result o p i j
carried_as result o p old new i j was is o_is p_is i_is j_is has =
    subst (λ (x : OutgoingValue). HasCarried result x p i j) (sym o_is)
    (subst (λ (x : OutgoingValue). HasCarried result old x i j) (sym p_is)
    (subst (λ (x : DrawValue Packet). HasCarried result old new x j) (sym i_is)
    (subst (λ (x : DrawValue Packet). HasCarried result old new was x) (sym j_is) has)))
