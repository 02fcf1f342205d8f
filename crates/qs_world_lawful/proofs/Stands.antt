-- What waits of a transaction stands, as requests that came are served.
use Rattle.qs_world_lawful.proofs.Words.{◌≡◌, ◌≢◌, ◌⊎◌, inl, inr, ℕ, ◌≤◌, Bool, true, false, List, [], ◌∷◌, Some, refl, sym, ap, subst, ◌∙◌, length, drop, map, filter, find, same_member, Member, NodeNo, ServerNo, Tid, same_member-self, same_member-true, Delivery, TransactionValue, is_crossed, is_standing, requests_at, served_in, standing_request, request_cmp, Request, RequestNo, share_of, Op, ServersValue, at_server, AreFor, HoldsWaits, IsWithin, op_in, waiting_ops, standing_ops, is_idle}
use Rattle.qs_world_lawful.proofs.Words.{false≢true}
use Rattle.qs_book_machine.specs.Transaction.{part_of}
use Rattle.qs_tm.specs.Members as rules
use Rattle.qs_world_lawful.proofs.Keys.{KeyApart, same_key_or, request_exact, request_itself}
use Rattle.qs_world_lawful.proofs.ServedTid as serving
use Rattle.qs_world_lawful.proofs.Within.{within_served, within_one, map_length, mark_first, mark_apart, mark_fewer}

for_later : (server : ServerNo) (ops : List Op) → AreFor server ops → AreFor server (drop 1 ops)
for_later server [] fits = tt
for_later server (op ∷ ops) fits = fits.1

-- ---- a request is served

module _ (here : NodeNo) (inc stamp number : ℕ) (from : NodeNo) (server : ServerNo) (done : Bool) (tid : Tid) (tx : TransactionValue) (op : Op) (waiting : ServerNo → List Delivery) (servers after : ServersValue)
    (h : HoldsWaits here inc tid tx waiting servers) where
  abbrev member : Member
  member = at_server here server

  abbrev at : RequestNo
  at = record { link = record { from = from; to = here }; number = number }

  abbrev now : TransactionValue
  now = served_in at member inc stamp done tx

  module _ (first : IsWithin (op ∷ waiting_ops at (waiting server)) (standing_ops tx at here server)) where
    served_within : (other : ServerNo) (key : RequestNo) → key.link.to ≡ here → IsWithin (waiting_ops key (waiting other)) (standing_ops now key here other)
    served_within other key near = by (same_key_or request_cmp request_exact request_itself at key)
      where
        own : IsWithin (waiting_ops at (waiting server)) (standing_ops now at here server)
        own = rw (serving.requests_at_key at member inc stamp done tx, mark_first member (requests_at tx at)) (within_served op _ _ first)

        elsewhere : member ≢ at_server here other → IsWithin (waiting_ops at (waiting other)) (standing_ops now at here other)
        elsewhere far = rw (serving.requests_at_key at member inc stamp done tx, mark_apart member (at_server here other) far (requests_at tx at)) (h.within other at refl)

        at_key : (b : Bool) → same_member member (at_server here other) ≡ b → IsWithin (waiting_ops at (waiting other)) (standing_ops now at here other)
        at_key true is = subst (λ (s : ServerNo). IsWithin (waiting_ops at (waiting s)) (standing_ops now at here s)) (ap (λ (m : Member). m.server) (same_member-true member (at_server here other) is)) own
        at_key false is = elsewhere (λ e. false≢true (sym is ∙ subst (λ (m : Member). same_member member m ≡ true) e (same_member-self member)))

        by : (at ≡ key) ⊎ KeyApart request_cmp request_exact request_itself at key → IsWithin (waiting_ops key (waiting other)) (standing_ops now key here other)
        by (inl same) = subst (λ (k : RequestNo). IsWithin (waiting_ops k (waiting other)) (standing_ops now k here other)) same (at_key (same_member member (at_server here other)) refl)
        by (inr far) = rw (serving.requests_apart at member inc stamp done tx key far) (h.within other key near)

    served_once : (other : ServerNo) (key : RequestNo) → is_crossed now (at_server here other) ≡ false → length (filter (is_standing (at_server here other)) (requests_at now key)) ≤ 1
    served_once other key whole = by (same_key_or request_cmp request_exact request_itself at key)
      where
        by : (at ≡ key) ⊎ KeyApart request_cmp request_exact request_itself at key → length (filter (is_standing (at_server here other)) (requests_at now key)) ≤ 1
        by (inl same) = subst (λ (k : RequestNo). length (filter (is_standing (at_server here other)) (requests_at now k)) ≤ 1) same
            (rw (serving.requests_at_key at member inc stamp done tx) (mark_fewer member (at_server here other) 1 (requests_at tx at) (h.once other at whole)))
        by (inr far) = rw (serving.requests_apart at member inc stamp done tx key far) (h.once other key whole)

    served_fits : (other : ServerNo) (key : RequestNo) → key.link.to ≡ here → AreFor other (standing_ops now key here other)
    served_fits other key near = by (same_key_or request_cmp request_exact request_itself at key)
      where
        own : AreFor server (standing_ops now at here server)
        own = rw (serving.requests_at_key at member inc stamp done tx, mark_first member (requests_at tx at)) (for_later server (standing_ops tx at here server) (h.fits server at refl))

        elsewhere : member ≢ at_server here other → AreFor other (standing_ops now at here other)
        elsewhere far = rw (serving.requests_at_key at member inc stamp done tx, mark_apart member (at_server here other) far (requests_at tx at)) (h.fits other at refl)

        at_key : (b : Bool) → same_member member (at_server here other) ≡ b → AreFor other (standing_ops now at here other)
        at_key true is = subst (λ (s : ServerNo). AreFor s (standing_ops now at here s)) (ap (λ (m : Member). m.server) (same_member-true member (at_server here other) is)) own
        at_key false is = elsewhere (λ e. false≢true (sym is ∙ subst (λ (m : Member). same_member member m ≡ true) e (same_member-self member)))

        by : (at ≡ key) ⊎ KeyApart request_cmp request_exact request_itself at key → AreFor other (standing_ops now key here other)
        by (inl same) = subst (λ (k : RequestNo). AreFor other (standing_ops now k here other)) same (at_key (same_member member (at_server here other)) refl)
        by (inr far) = rw (serving.requests_apart at member inc stamp done tx key far) (h.fits other key near)

    pub served_waits : (is_idle (share_of after.files.table tid) ≡ false → (part_of now (at_server here rules.files_no) inc).due ≡ true) → HoldsWaits here inc tid now waiting after
    served_waits due = record { whole = h.whole; due = due; within = served_within; once = served_once; fits = served_fits }

-- of what waits first one stands
pub one_stands : (op : Op) (ops : List Op) (tx : TransactionValue) (at : RequestNo) (here : NodeNo) (server : ServerNo) → IsWithin (op ∷ ops) (standing_ops tx at here server) → (request : Request) × (standing_request tx at (at_server here server) ≡ Some request)
one_stands op ops tx at here server w = first_found (requests_at tx at) w
  where
    first_found : (rs : List Request) → IsWithin (op ∷ ops) (map op_in (filter (is_standing (at_server here server)) rs)) → (request : Request) × (find (is_standing (at_server here server)) rs ≡ Some request)
    first_found [] v = absurd v
    first_found (r ∷ rs) v = by (is_standing (at_server here server) r) refl (first_found rs)
      where
        by : (b : Bool) → is_standing (at_server here server) r ≡ b → (IsWithin (op ∷ ops) (map op_in (filter (is_standing (at_server here server)) rs)) → (request : Request) × (find (is_standing (at_server here server)) rs ≡ Some request))
            → (request : Request) × (find (is_standing (at_server here server)) (r ∷ rs) ≡ Some request)
        by true is more = (r, rw is refl)
        by false is more = let it = more (rw is at v) in (it.0, rw is it.1)

-- where the transaction is not crossed what waits first is what stands
pub alone : (op : Op) (ops : List Op) (tx : TransactionValue) (at : RequestNo) (here : NodeNo) (server : ServerNo) → IsWithin (op ∷ ops) (standing_ops tx at here server) → length (filter (is_standing (at_server here server)) (requests_at tx at)) ≤ 1
    → (request : Request) × (standing_request tx at (at_server here server) ≡ Some request) × (request.op ≡ op)
alone op ops tx at here server w most =
    first_found (requests_at tx at) (within_one op ops (standing_ops tx at here server) w (subst (λ (n : ℕ). n ≤ 1) (sym (map_length op_in (filter (is_standing (at_server here server)) (requests_at tx at)))) most))
  where
    head_of : (x : Op) (xs : List Op) → x ∷ xs ≡ op ∷ [] → x ≡ op
    head_of x xs e = cc e

    first_found : (rs : List Request) → map op_in (filter (is_standing (at_server here server)) rs) ≡ op ∷ [] → (request : Request) × (find (is_standing (at_server here server)) rs ≡ Some request) × (request.op ≡ op)
    first_found [] e = absurd (cc e)
    first_found (r ∷ rs) e = by (is_standing (at_server here server) r) refl (first_found rs)
      where
        by : (b : Bool) → is_standing (at_server here server) r ≡ b → (map op_in (filter (is_standing (at_server here server)) rs) ≡ op ∷ [] → (request : Request) × (find (is_standing (at_server here server)) rs ≡ Some request) × (request.op ≡ op))
            → (request : Request) × (find (is_standing (at_server here server)) (r ∷ rs) ≡ Some request) × (request.op ≡ op)
        by true is more = (r, rw is refl, head_of r.op _ (rw is at e))
        by false is more = let it = more (rw is at e) in (it.0, rw is it.1, it.2)
