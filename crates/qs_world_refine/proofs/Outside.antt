-- No message between nodes of the run is about a transaction whose home is not in it.
use Rattle.qs_world_refine.proofs.Words.{◌≡◌, ℕ, ◌==◌, ◌&&◌, not, nat_lt, Bool, true, false, List, [], ◌∷◌, ◌++◌, refl, sym, subst, arith, list_all, nat_tests, same_tid, Tid, same_node, Message, names_transaction, Parcel, may_be_known, fits, node_no, IsForeign, is_steady_parcel, are_two}
use Rattle.qs_packet.specs.declared.message.Message.TheVariants as messages
use Rattle.qs_world.specs.World.{World}
use Rattle.qs_world_refine.specs.Begun.{has_begun}
use Rattle.qs_world_refine.specs.LeftLaws.{OutsideForeign}
use Rattle.qs_world_refine.proofs.SoundKnown.{same_is}
use Rattle.qs_world_refine.proofs.SoundParts.{and_both}

module _ (tid : Tid) (world : World) (n m : ℕ) (outside : nat_lt tid.home.0 world.size ≡ false) where
  -- another one than each whose home is in the run
  other : (t : Tid) → nat_lt t.home.0 world.size ≡ true → same_tid tid t ≡ false
  other t in_run = by (same_tid tid t) refl
    where
      by : (b : Bool) → same_tid tid t ≡ b → b ≡ false
      by false apart = refl
      by true same = absurd (let here : nat_lt tid.home.0 world.size ≡ true = subst (λ (u : Tid). nat_lt u.home.0 world.size ≡ true) (sym (same_is tid t same)) in_run in cc (here, outside))

  begun_in : (t : Tid) → has_begun world t ≡ true → nat_lt t.home.0 world.size ≡ true
  begun_in t is = (and_both (nat_lt t.home.0 world.size) _ (and_both (names_transaction t) _ is).1).0

  home_in : (t : Tid) (k : ℕ) → nat_lt k world.size ≡ true → same_node t.home (node_no k) ≡ true → nat_lt t.home.0 world.size ≡ true
  home_in t k low same = grind (arith, nat_tests, low, same)

  foreign : nat_lt n world.size ≡ true → nat_lt m world.size ≡ true → (message : Message) → fits (may_be_known world) (has_begun world) world.size (node_no n) (node_no m) message ≡ true → IsForeign tid message
  foreign n_in m_in messages.Hello fit = tt
  foreign n_in m_in (messages.Request t label member number issuer op) fit = other t (begun_in t (and_both (has_begun world t) _ fit).0)
  foreign n_in m_in (messages.Answered t member number reply) fit = other t (begun_in t fit)
  foreign n_in m_in (messages.AskVote t) fit = other t (begun_in t fit)
  foreign n_in m_in (messages.Covered t up_to) fit = other t (begun_in t fit)
  foreign n_in m_in (messages.VotedYes t up_to told) fit = other t (begun_in t (and_both (has_begun world t) _ fit).0)
  foreign n_in m_in (messages.VotedAbort t cause) fit = other t (and_both (may_be_known world t) _ fit).1
  foreign n_in m_in (messages.Tell t outcome) fit = other t (home_in t n n_in (and_both (may_be_known world t) _ fit).1)
  foreign n_in m_in (messages.Told t further) fit = other t (home_in t m m_in (and_both (may_be_known world t) _ fit).1)
  foreign n_in m_in (messages.Inquire t) fit = other t (home_in t m m_in (and_both (may_be_known world t) _ fit).1)

pub outside_foreign : OutsideForeign
outside_foreign tid world n m i j parcel before rest steady outside posted =
    let its : is_steady_parcel world n m parcel ≡ true = one before (subst (λ (l : List Parcel). list_all (is_steady_parcel world n m) l ≡ true) posted (steady.posted n m i j)) in
    let both : (are_two world.size n m ≡ true) × (fits (may_be_known world) (has_begun world) world.size (node_no n) (node_no m) parcel.message ≡ true) = and_both (are_two world.size n m) _ its in
    let two : (nat_lt n world.size ≡ true) × ((nat_lt m world.size && not (n == m)) ≡ true) = and_both (nat_lt n world.size) _ both.0 in
    foreign tid world n m outside two.0 (and_both (nat_lt m world.size) (not (n == m)) two.1).0 parcel.message both.1
  where
    one : (xs : List Parcel) → list_all (is_steady_parcel world n m) (xs ++ parcel ∷ rest) ≡ true → is_steady_parcel world n m parcel ≡ true
    one [] all = (and_both (is_steady_parcel world n m parcel) (list_all (is_steady_parcel world n m) rest) all).0
    one (x ∷ xs) all = one xs (and_both (is_steady_parcel world n m x) (list_all (is_steady_parcel world n m) (xs ++ parcel ∷ rest)) all).1
