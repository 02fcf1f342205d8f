-- The entries of one node leave what two others have on its way between them.
use Rattle.qs_world_lawful.proofs.Words.{◌≡◌, inl, inr, ℕ, ◌==◌, ◌&&◌, zero, suc, Bool, true, false, List, [], ◌∷◌, drop, length, map, Option, Some, None, refl, sym, ap, subst, ◌∙◌, is_some, if◌then◌else◌, filter, same_tid, same_tid-true, NodeNo, ServerNo, Tid, Channels, Entry, BookValue, find_transaction, IsLawful, book_after, broken, effect, TransactionValue, is_standing, requests_at, Request, Op, Message, Parcel, IsOfStep, at_server, Every, HoldsChannels, IsParcel, IsSaid, on_its_way, ops_of}
use Rattle.qs_world_lawful.proofs.Words.{pending, pending_from, way_between, IsWithin, op_in, standing_ops, eqb-false}
use Rattle.qs_packet.specs.declared.message.Message.TheVariants as messages
use Rattle.qs_world_lawful.specs.Parcels.{is_asking_for}
use Rattle.qs_world_lawful.proofs.AsideBook.{Goes, goes_on}
use Rattle.qs_world_lawful.proofs.LastsEntry.{lasts_on}
use Rattle.qs_world_lawful.proofs.LastsWell.{LastsWell}
use Rattle.qs_world_lawful.proofs.ParcelsKept.{every_more}
use Rattle.qs_world_lawful.proofs.Turning.{some_of}
use Rattle.qs_world_lawful.proofs.TurnedRequests.{AtNumber, at_number}

-- what is on its way, of each transaction: it stands, and there is none of what the machine does not know
pub record HoldsOps (book : BookValue) (a b : ℕ) (ds : Tid → ServerNo → ℕ → List Op) : Type 0 where
  pub stands : (tid : Tid) (tx : TransactionValue) (server : ServerNo) (number : ℕ) → find_transaction book tid ≡ Some tx → IsWithin (ds tid server number) (standing_ops tx (way_between a b number) (record { 0 = b }) server)
  pub none : (tid : Tid) (server : ServerNo) (number : ℕ) → find_transaction book tid ≡ None → ds tid server number ≡ []

module _ (a b n : ℕ) (a_far : (a == n) ≡ false) (b_far : (b == n) ≡ false) (ds : Tid → ServerNo → ℕ → List Op) where
  entry_leaves : (book : BookValue) (entry : Entry) → LastsWell book → broken book entry ≡ None → entry.node.0 ≡ n → HoldsOps book a b ds → HoldsOps (effect book entry) a b ds
  entry_leaves book entry w h own ops = record { stands = stands; none = none }
    where
      none : (tid : Tid) (server : ServerNo) (number : ℕ) → find_transaction (effect book entry) tid ≡ None → ds tid server number ≡ []
      none tid server number is = ops.none tid server number (by (find_transaction book tid) refl)
        where
          by : (o : Option TransactionValue) → find_transaction book tid ≡ o → find_transaction book tid ≡ None
          by None e = e
          by (Some tx) e = absurd (cc (sym is ∙ (goes_on book entry w h tid tx e).1))

      at_same : (tid : Tid) (tx later : TransactionValue) (number : ℕ) → Goes book entry w h tid tx later → requests_at later (way_between a b number) ≡ requests_at tx (way_between a b number)
      at_same tid tx later number (inl same) = ap (λ (x : TransactionValue). requests_at x (way_between a b number)) same
      at_same tid tx later number (inr (t, r)) = of (at_number entry.node.0 t.now book.place tx later r.requests (way_between a b number))
        where
          of : AtNumber entry.node.0 tx later (way_between a b number) → requests_at later (way_between a b number) ≡ requests_at tx (way_between a b number)
          of (inl same) = same
          of (inr (inl more)) = absurd (eqb-false a n a_far (more.from ∙ own))
          of (inr (inr served)) = absurd (eqb-false b n b_far (ap (λ (k : NodeNo). k.0) served.to ∙ (served.own ∙ own)))

      stands : (tid : Tid) (later : TransactionValue) (server : ServerNo) (number : ℕ) → find_transaction (effect book entry) tid ≡ Some later → IsWithin (ds tid server number) (standing_ops later (way_between a b number) (record { 0 = b }) server)
      stands tid later server number found = by (find_transaction book tid) refl
        where
          by : (o : Option TransactionValue) → find_transaction book tid ≡ o → IsWithin (ds tid server number) (standing_ops later (way_between a b number) (record { 0 = b }) server)
          by (Some tx) was =
              let p = goes_on book entry w h tid tx was in
              subst (λ (rs : List Request). IsWithin (ds tid server number) (map op_in (filter (is_standing (at_server (record { 0 = b }) server)) rs)))
              (sym (at_same tid tx later number (subst (λ (x : TransactionValue). Goes book entry w h tid tx x) (some_of (sym p.1 ∙ found)) p.2))) (ops.stands tid tx server number was)
          by None was = subst (λ (xs : List Op). IsWithin xs (standing_ops later (way_between a b number) (record { 0 = b }) server)) (sym (ops.none tid server number was)) tt

  pub entries_leave : (more : List Entry) (book : BookValue) → LastsWell book → IsLawful book more → Every (λ (entry : Entry). (entry.node.0 ≡ n) × IsOfStep entry.act) more → HoldsOps book a b ds → HoldsOps (book_after book more) a b ds
  entries_leave [] book w lawful own ops = ops
  entries_leave (entry ∷ more) book w lawful own ops = entries_leave more (effect book entry) (lasts_on book entry w lawful.0) lawful.1 own.1 (entry_leaves book entry w lawful.0 own.0.0 ops)

-- ---- of what the machine does not know nothing is on its way

module _ (book : BookValue) (size n m : ℕ) (tid : Tid) (unknown : find_transaction book tid ≡ None) (server : ServerNo) (number : ℕ) where
  asks_none : (message : Message) → IsSaid book message → is_asking_for tid server number message ≡ []
  asks_none (messages.Request t label member k issuer op) said = by (same_tid tid t) refl
    where
      by : (x : Bool) → same_tid tid t ≡ x → (if x && ((member.server.0 == server.0) && (k == number)) then op ∷ [] else []) ≡ []
      by false is = refl
      by true is = absurd (cc (sym (ap is_some (ap (find_transaction book) (sym (same_tid-true tid t is)) ∙ unknown)) ∙ said))
  asks_none messages.Hello said = refl
  asks_none (messages.Answered t member k reply) said = refl
  asks_none (messages.AskVote t) said = refl
  asks_none (messages.Covered t up_to) said = refl
  asks_none (messages.VotedYes t up_to told) said = refl
  asks_none (messages.VotedAbort t cause) said = refl
  asks_none (messages.Tell t outcome) said = refl
  asks_none (messages.Told t further) said = refl
  asks_none (messages.Inquire t) said = refl

  pub none_of : (ps : List Parcel) → Every (IsParcel book size n m) ps → ops_of tid server number ps ≡ []
  none_of [] all = refl
  none_of (p ∷ ps) all = rw (asks_none p.message all.0.says) (none_of ps all.1)

every_drop : {A : Type 0} (P : A → Type 0) (k : ℕ) (xs : List A) → Every P xs → Every P (drop k xs)
every_drop P zero xs all = all
every_drop P (suc k) [] all = tt
every_drop P (suc k) (x ∷ xs) all = every_drop P k xs all.1

every_pending : (P : Parcel → Type 0) (at : ℕ → List Parcel) → ((i : ℕ) → Every P (at i)) → (i more : ℕ) → Every P (pending_from at i more)
every_pending P at all i zero = tt
every_pending P at all i (suc more) = every_more P (at i) (pending_from at (suc i) more) (all i) (every_pending P at all (suc i) more)

pub on_way_so : (book : BookValue) (size a b : ℕ) (c : Channels Parcel) → HoldsChannels book size c → Every (IsParcel book size a b) (on_its_way c a b)
on_way_so book size a b c h = every_more (IsParcel book size a b) _ (c.waits a b)
    (every_pending (IsParcel book size a b) (λ i. pending c a b i (c.inc b)) (λ i. every_drop (IsParcel book size a b) (length (c.handed a b i (c.inc b))) (c.posted a b i (c.inc b)) (h.posted a b i (c.inc b))) _ _) (h.waits a b)
