-- What waits of a transaction stands, as requests are issued to servers here.
use Rattle.qs_world_lawful.proofs.Words.{◌≡◌, ◌≢◌, ◌⊎◌, inl, inr, ℕ, ◌==◌, ◌≤◌, Bool, true, false, List, [], ◌∷◌, ◌++◌, Option, Some, None, refl, sym, ap, subst, ◌∙◌, arith, length, true≢false, nat_tests, ◌&&◌, not, is_some, filter, find, lookup, insert_entry, is_at, member_cmp, same_member, Member, NodeNo, ServerNo, Tid, same_member-self, same_member-true, Delivery, lookup_put, lookup_put_apart, TransactionValue, is_commit, is_crossed, is_standing, requests_at, issued, crossed_by, crossed_from}
use Rattle.qs_world_lawful.proofs.Words.{standing_request, request_cmp, Request, RequestNo, Op, ServersValue, at_server, AreFor, HoldsWaits, IsWithin, op_in, op_of, waiting_ops, standing_ops, eqb_turned, eqb-false}
use Rattle.qs_book_laws.proofs.Maps.{put_known}
use Rattle.qs_world_lawful.specs.Face.{is_numbered}
use Rattle.qs_ipc.specs.Queue.{is_for}
use Rattle.qs_world_lawful.proofs.Faces.{filter_last, filter_more}
use Rattle.qs_world_lawful.proofs.Issued as issuing
use Rattle.qs_world_lawful.proofs.Keys.{KeyApart, same_key_or, member_exact, member_itself, request_exact, request_itself}
use Rattle.qs_world_lawful.proofs.Within.{within_both, map_last}

for_last : (server : ServerNo) (ops : List Op) (op : Op) → AreFor server ops → is_for server op ≡ true → AreFor server (ops ++ op ∷ [])
for_last server [] op fits one = (one, tt)
for_last server (x ∷ xs) op fits one = (fits.0, for_last server xs op fits.1 one)

-- ---- a request is issued to a server here

crossing_new : (place : ℕ) (member : Member) (crossed : List (Member × ℕ)) → is_some (lookup (is_at (member_cmp member)) (crossed_from place member crossed)) ≡ true
crossing_new place member crossed = by (lookup (is_at (member_cmp member)) crossed) refl
  where
    by : (o : Option ℕ) → lookup (is_at (member_cmp member)) crossed ≡ o → is_some (lookup (is_at (member_cmp member)) (elim o [ Some earlier ↦ crossed | None ↦ insert_entry member_cmp crossed member place ])) ≡ true
    by (Some earlier) is = ap is_some is
    by None is = ap is_some (lookup_put member_cmp member place (member_itself member) crossed)

-- a request crosses its transaction at its own member alone
pub crossed_elsewhere : (o : Option Request) (place : ℕ) (member m : Member) (crossed : List (Member × ℕ)) → is_at (member_cmp m) member ≡ false
    → is_some (lookup (is_at (member_cmp m)) (crossed_by o place member crossed)) ≡ is_some (lookup (is_at (member_cmp m)) crossed)
crossed_elsewhere None place member m crossed far = refl
crossed_elsewhere (Some earlier) place member m crossed far = by (lookup (is_at (member_cmp member)) crossed)
  where
    by : (o : Option ℕ) → is_some (lookup (is_at (member_cmp m)) (elim o [ Some first ↦ crossed | None ↦ insert_entry member_cmp crossed member place ])) ≡ is_some (lookup (is_at (member_cmp m)) crossed)
    by (Some first) = refl
    by None = ap is_some (lookup_put_apart member_cmp member place (member_exact member) (is_at (member_cmp m)) far crossed)

none_found : {A : Type 0} (p : A → Bool) (xs : List A) → find p xs ≡ None → filter p xs ≡ []
none_found p [] e = refl
none_found p (x ∷ xs) e = by (p x) refl (none_found p xs)
  where
    by : (b : Bool) → p x ≡ b → (find p xs ≡ None → filter p xs ≡ []) → filter p (x ∷ xs) ≡ []
    by true is more = absurd (cc (rw is at e))
    by false is more = rw is (more (rw is at e))

module _ (here : NodeNo) (inc number peer_inc place : ℕ) (request : Request) (tx : TransactionValue) (at_here : request.member.node ≡ here) (in_inc : request.inc ≡ inc) where
  abbrev pub issued_at : RequestNo
  issued_at = record { link = record { from = here; to = request.member.node }; number = number }

  abbrev pub issued_tx : TransactionValue
  issued_tx = issued issued_at request peer_inc place tx

  requests_more : requests_at issued_tx issued_at ≡ requests_at tx issued_at ++ request ∷ []
  requests_more = issuing.requests_here here inc number peer_inc place request tx at_here in_inc

  requests_other : (key : RequestNo) → KeyApart request_cmp request_exact request_itself issued_at key → requests_at issued_tx key ≡ requests_at tx key
  requests_other key far = issuing.requests_apart here inc number peer_inc place request tx at_here in_inc key far

  member_is : at_server here request.member.server ≡ request.member
  member_is = ap (λ (n : NodeNo). at_server n request.member.server) (sym at_here)

  -- what is crossed stays so
  crossed_on : (m : Member) → is_crossed issued_tx m ≡ false → is_crossed tx m ≡ false
  crossed_on m whole = by (is_crossed tx m) refl (standing_request tx issued_at request.member)
    where
      from_on : is_crossed tx m ≡ true → is_some (lookup (is_at (member_cmp m)) (crossed_from place request.member tx.crossed)) ≡ true
      from_on is = of (lookup (is_at (member_cmp request.member)) tx.crossed)
        where
          of : (o : Option ℕ) → is_some (lookup (is_at (member_cmp m)) (elim o [ Some earlier ↦ tx.crossed | None ↦ insert_entry member_cmp tx.crossed request.member place ])) ≡ true
          of (Some earlier) = is
          of None = put_known member_cmp request.member place (is_at (member_cmp m)) tx.crossed is

      grown : is_crossed tx m ≡ true → (o : Option Request) → is_some (lookup (is_at (member_cmp m)) (crossed_by o place request.member tx.crossed)) ≡ true
      grown is None = is
      grown is (Some earlier) = from_on is

      by : (b : Bool) → is_crossed tx m ≡ b → (o : Option Request) → b ≡ false
      by false is o = refl
      by true is o = absurd (true≢false (sym (grown is (standing_request tx issued_at request.member)) ∙ whole))

  -- where none stands nothing is crossed
  pub crossed_none : standing_request tx issued_at request.member ≡ None → issued_tx.crossed ≡ tx.crossed
  crossed_none is = ap (λ (o : Option Request). crossed_by o place request.member tx.crossed) is

  -- where one stands the member is
  pub crossed_some : (earlier : Request) → standing_request tx issued_at request.member ≡ Some earlier → is_crossed issued_tx request.member ≡ true
  crossed_some earlier is = ap (λ (o : Option Request). is_some (lookup (is_at (member_cmp request.member)) (crossed_by o place request.member tx.crossed))) is ∙ crossing_new place request.member tx.crossed

  -- and no other
  pub crossed_other : (m : Member) → is_at (member_cmp m) request.member ≡ false → is_crossed issued_tx m ≡ is_crossed tx m
  crossed_other m far = crossed_elsewhere (standing_request tx issued_at request.member) place request.member m tx.crossed far

  not_other : (server : ServerNo) → server ≢ request.member.server → is_standing (at_server here server) request ≡ false
  not_other server far = by (same_member request.member (at_server here server)) refl
    where
      by : (b : Bool) → same_member request.member (at_server here server) ≡ b → (b && not request.served) ≡ false
      by false is = refl
      by true is = absurd (far (sym (ap (λ (m : Member). m.server) (same_member-true request.member (at_server here server) is))))

  standing_elsewhere : (server : ServerNo) → server ≢ request.member.server → (key : RequestNo) → filter (is_standing (at_server here server)) (requests_at issued_tx key) ≡ filter (is_standing (at_server here server)) (requests_at tx key)
  standing_elsewhere server far key = by (same_key_or request_cmp request_exact request_itself issued_at key)
    where
      by : (issued_at ≡ key) ⊎ KeyApart request_cmp request_exact request_itself issued_at key → filter (is_standing (at_server here server)) (requests_at issued_tx key) ≡ filter (is_standing (at_server here server)) (requests_at tx key)
      by (inl same) = subst (λ (k : RequestNo). filter (is_standing (at_server here server)) (requests_at issued_tx k) ≡ filter (is_standing (at_server here server)) (requests_at tx k)) same
          (ap (filter (is_standing (at_server here server))) requests_more ∙ filter_more (is_standing (at_server here server)) (requests_at tx issued_at) request (not_other server far))
      by (inr apart) = ap (filter (is_standing (at_server here server))) (requests_other key apart)

  module _ (unserved : request.served ≡ false) where
    standing_here : filter (is_standing (at_server here request.member.server)) (requests_at issued_tx issued_at) ≡ filter (is_standing (at_server here request.member.server)) (requests_at tx issued_at) ++ request ∷ []
    standing_here = subst (λ (m : Member). filter (is_standing m) (requests_at issued_tx issued_at) ≡ filter (is_standing m) (requests_at tx issued_at) ++ request ∷ []) (sym member_is)
        (ap (filter (is_standing request.member)) requests_more ∙ filter_last (is_standing request.member) (requests_at tx issued_at) request (rw (same_member-self request.member, unserved) refl))

    once_here : is_crossed issued_tx request.member ≡ false → length (filter (is_standing (at_server here request.member.server)) (requests_at issued_tx issued_at)) ≤ 1
    once_here whole = by (standing_request tx issued_at request.member) refl
      where
        one : 1 ≤ 1
        one = grind arith

        by : (o : Option Request) → standing_request tx issued_at request.member ≡ o → length (filter (is_standing (at_server here request.member.server)) (requests_at issued_tx issued_at)) ≤ 1
        by None is = rw standing_here (rw (subst (λ (m : Member). filter (is_standing m) (requests_at tx issued_at) ≡ []) (sym member_is) (none_found (is_standing request.member) (requests_at tx issued_at) is)) one)
        by (Some earlier) is =
            absurd (true≢false (sym (crossed_some earlier is) ∙ whole))

    module _ (delivery : Delivery) (from : delivery.from ≡ here) (numbered : delivery.number ≡ number) (its : delivery.op ≡ request.op)
        (tid : Tid) (waiting after : ServerNo → List Delivery) (waits_here : after request.member.server ≡ waiting request.member.server ++ delivery ∷ []) (waits_elsewhere : (server : ServerNo) → server ≢ request.member.server → after server ≡ waiting server)
        (servers : ServersValue) (h : HoldsWaits here inc tid tx waiting servers) where
      number_self : is_numbered issued_at delivery ≡ true
      number_self = of delivery.from.0 here.0 delivery.number number (ap (λ (n : NodeNo). n.0) from) numbered
        where
          of : (a b m n : ℕ) → a ≡ b → m ≡ n → ((a == b) && (m == n)) ≡ true
          of a b m n p q = grind (arith, nat_tests, p, q)

      number_apart : (key : RequestNo) → key.link.to ≡ here → KeyApart request_cmp request_exact request_itself issued_at key → is_numbered key delivery ≡ false
      number_apart key near far = by (is_numbered key delivery) refl
        where
          itself : is_at (request_cmp issued_at) issued_at ≡ true
          itself = rw (request_itself issued_at) refl

          by : (b : Bool) → is_numbered key delivery ≡ b → b ≡ false
          by false is = refl
          by true is =
              let same : issued_at ≡ key = issuing.key_is here inc number peer_inc place request tx at_here in_inc unserved delivery from numbered key near is in
              absurd (true≢false (sym itself ∙ subst (λ (k : RequestNo). is_at (request_cmp k) issued_at ≡ false) (sym same) far.at))

      within_here : (key : RequestNo) → key.link.to ≡ here → IsWithin (waiting_ops key (waiting request.member.server ++ delivery ∷ [])) (standing_ops issued_tx key here request.member.server)
      within_here key near = by (same_key_or request_cmp request_exact request_itself issued_at key)
        where
          own : IsWithin (waiting_ops issued_at (waiting request.member.server ++ delivery ∷ [])) (standing_ops issued_tx issued_at here request.member.server)
          own =
              rw (filter_last (is_numbered issued_at) (waiting request.member.server) delivery number_self, map_last op_of (filter (is_numbered issued_at) (waiting request.member.server)) delivery, standing_here, map_last op_in (filter (is_standing (at_server here request.member.server)) (requests_at tx issued_at)) request, its)
              (within_both _ _ request.op (h.within request.member.server issued_at at_here))

          by : (issued_at ≡ key) ⊎ KeyApart request_cmp request_exact request_itself issued_at key → IsWithin (waiting_ops key (waiting request.member.server ++ delivery ∷ [])) (standing_ops issued_tx key here request.member.server)
          by (inl same) = subst (λ (k : RequestNo). IsWithin (waiting_ops k (waiting request.member.server ++ delivery ∷ [])) (standing_ops issued_tx k here request.member.server)) same own
          by (inr far) = rw (filter_more (is_numbered key) (waiting request.member.server) delivery (number_apart key near far), requests_other key far) (h.within request.member.server key near)

      at_server_of : (P : ServerNo → Type 0) → P request.member.server → ((server : ServerNo) → server ≢ request.member.server → P server) → (server : ServerNo) → P server
      at_server_of P here_it elsewhere server = by (server.0 == request.member.server.0) refl
        where
          by : (b : Bool) → (server.0 == request.member.server.0) ≡ b → P server
          by true is = subst P (ap (λ (n : ℕ). record { 0 = n }) (eqb_turned server.0 request.member.server.0 is)) here_it
          by false is = elsewhere server (λ e. eqb-false server.0 request.member.server.0 is (ap (λ (s : ServerNo). s.0) e))

      issued_once : (server : ServerNo) (key : RequestNo) → is_crossed issued_tx (at_server here server) ≡ false → length (filter (is_standing (at_server here server)) (requests_at issued_tx key)) ≤ 1
      issued_once server key = at_server_of (λ (s : ServerNo). is_crossed issued_tx (at_server here s) ≡ false → length (filter (is_standing (at_server here s)) (requests_at issued_tx key)) ≤ 1)
          (λ whole. by (same_key_or request_cmp request_exact request_itself issued_at key) whole)
          (λ s far whole. rw (standing_elsewhere s far key) (h.once s key (crossed_on (at_server here s) whole))) server
        where
          by : (issued_at ≡ key) ⊎ KeyApart request_cmp request_exact request_itself issued_at key → is_crossed issued_tx (at_server here request.member.server) ≡ false → length (filter (is_standing (at_server here request.member.server)) (requests_at issued_tx key)) ≤ 1
          by (inl same) whole = subst (λ (k : RequestNo). length (filter (is_standing (at_server here request.member.server)) (requests_at issued_tx k)) ≤ 1) same
              (once_here (ap (is_crossed issued_tx) (sym member_is) ∙ whole))
          by (inr far) whole = rw (requests_other key far) (h.once request.member.server key (crossed_on (at_server here request.member.server) whole))

      module _ (its_own : is_for request.member.server request.op ≡ true) where
        fits_here : (key : RequestNo) → key.link.to ≡ here → AreFor request.member.server (standing_ops issued_tx key here request.member.server)
        fits_here key near = by (same_key_or request_cmp request_exact request_itself issued_at key)
          where
            own : AreFor request.member.server (standing_ops issued_tx issued_at here request.member.server)
            own = rw (standing_here, map_last op_in (filter (is_standing (at_server here request.member.server)) (requests_at tx issued_at)) request)
                (for_last request.member.server (standing_ops tx issued_at here request.member.server) request.op (h.fits request.member.server issued_at at_here) its_own)

            by : (issued_at ≡ key) ⊎ KeyApart request_cmp request_exact request_itself issued_at key → AreFor request.member.server (standing_ops issued_tx key here request.member.server)
            by (inl same) = subst (λ (k : RequestNo). AreFor request.member.server (standing_ops issued_tx k here request.member.server)) same own
            by (inr far) = rw (requests_other key far) (h.fits request.member.server key near)

        pub issued_fits : (server : ServerNo) (key : RequestNo) → key.link.to ≡ here → AreFor server (standing_ops issued_tx key here server)
        issued_fits server key near = at_server_of (λ (s : ServerNo). AreFor s (standing_ops issued_tx key here s)) (fits_here key near) (λ s far. rw (standing_elsewhere s far key) (h.fits s key near)) server

      pub issued_waits : is_for request.member.server request.op ≡ true → is_commit tx.cell ≡ false → HoldsWaits here inc tid issued_tx after servers
      issued_waits its_own still = record {
        whole = λ is. absurd (true≢false (sym is ∙ still));
        due = h.due;
        within = λ server key near. at_server_of (λ (s : ServerNo). IsWithin (waiting_ops key (after s)) (standing_ops issued_tx key here s))
            (rw waits_here (within_here key near)) (λ s far. rw (waits_elsewhere s far, standing_elsewhere s far key) (h.within s key near)) server;
        once = issued_once;
        fits = issued_fits its_own;
      }
