-- A request that is issued to a server of the node itself leaves what is held of its transaction.
use Rattle.qs_world_lawful.proofs.Words.{◌≡◌, ◌≢◌, ◌⊎◌, inl, inr, ℕ, ◌+◌, ◌==◌, ◌≤◌, Bool, true, false, List, [], ◌∷◌, ◌++◌, Option, Some, None, suc, refl, sym, ap, subst, ◌∙◌, arith, length, le_refl, nat_tests, unwrap_or, filter, list_any, is_at, Member, NodeNo, ServerNo, Tid, same_member-self, Delivery, lookup_put, lookup_put_apart, TransactionValue, issued, sent_in, sent_on, sent_more, request_cmp, link_cmp, requests_at, is_standing, Link, Request, RequestNo, Sent, awaits_note, has_noted}
use Rattle.qs_world_lawful.proofs.Words.{MemberPart, Outstanding, Participant, at_server, HoldsMember, HoldsHome, HoldsTid, some_same, le_le, le_suc, and_parts, eqb-true, eq-eqb}
use Rattle.qs_tm.specs.Participant as participant
use Rattle.qs_tm.specs.Participant.{is_by_files}
use Rattle.qs_world_lawful.specs.Face.{Face, is_numbered}
use Rattle.qs_world_lawful.proofs.Faces.{filter_last, filter_more}
use Rattle.qs_world_lawful.proofs.Keys.{KeyApart, same_key_or, link_exact, link_itself, request_exact, request_itself}
use Rattle.qs_base_lemmas.proofs.Tests.{equal_apart}

-- ---- numbers

abbrev pub numbered_as : NodeNo → NodeNo → ℕ → RequestNo
numbered_as a b n = record { link = record { from = a; to = b }; number = n }

pub sent_again : (inc : ℕ) (request : Request) (o : Option Sent) → request.inc ≡ inc → sent_in inc (Some (sent_more request o)) ≡ sent_in inc o + 1
sent_again inc request None same = by (request.inc == inc) refl
  where
    by : (b : Bool) → (request.inc == inc) ≡ b → sent_in inc (Some (sent_more request None)) ≡ sent_in inc None + 1
    by true is = rw is refl
    by false is = absurd (equal_apart request.inc inc same is)
sent_again inc request (Some sent) same = by (sent.inc == request.inc) refl
  where
    moved : (a b c : ℕ) → b ≡ c → (a == b) ≡ true → (a == c) ≡ true
    moved a b c e is = grind (arith, nat_tests, e, is)

    other : (a b c : ℕ) → b ≡ c → (a == b) ≡ false → (a == c) ≡ false
    other a b c e is = grind (arith, nat_tests, e, is)

    by : (b : Bool) → (sent.inc == request.inc) ≡ b → sent_in inc (Some (sent_more request (Some sent))) ≡ sent_in inc (Some sent) + 1
    by true is = rw (is, moved sent.inc request.inc inc same is) refl
    by false is = rw (is, eq-eqb request.inc inc same, other sent.inc request.inc inc same is) refl

-- ---- what stands

length_more : {A : Type 0} (xs : List A) (x : A) → length (xs ++ x ∷ []) ≡ suc (length xs)
length_more [] x = refl
length_more (y ∷ ys) x = ap suc (length_more ys x)

rise : (a b : ℕ) → a ≤ b → suc a ≤ suc b
rise a b h = grind (arith, h)

count_more : {A : Type 0} (p : A → Bool) (xs : List A) (x : A) → length (filter p xs) ≤ length (filter p (xs ++ x ∷ []))
count_more p xs x = by (p x) refl
  where
    by : (b : Bool) → p x ≡ b → length (filter p xs) ≤ length (filter p (xs ++ x ∷ []))
    by true is = rw (filter_last p xs x is, length_more (filter p xs) x) (le_suc _ _ (le_refl (length (filter p xs))))
    by false is = rw (filter_more p xs x is) (le_refl (length (filter p xs)))

pub any_more : {A : Type 0} (p : A → Bool) (xs : List A) (x : A) → list_any p xs ≡ true → list_any p (xs ++ x ∷ []) ≡ true
any_more p [] x h = absurd (cc h)
any_more p (y ∷ ys) x h = by (p y) refl (any_more p ys x)
  where
    by : (b : Bool) → p y ≡ b → (list_any p ys ≡ true → list_any p (ys ++ x ∷ []) ≡ true) → list_any p ((y ∷ ys) ++ x ∷ []) ≡ true
    by true is more = rw is refl
    by false is more = rw is (more (rw is at h))

module _ (here : NodeNo) (inc number peer_inc place : ℕ) (request : Request) (tx : TransactionValue) (at_here : request.member.node ≡ here) (in_inc : request.inc ≡ inc) where
  abbrev pub at : RequestNo
  at = record { link = record { from = here; to = request.member.node }; number = number }

  abbrev pub now : TransactionValue
  now = issued at request peer_inc place tx

  abbrev home_link : Link
  home_link = record { from = here; to = here }

  sent_here : sent_in inc (sent_on now home_link) ≡ sent_in inc (sent_on tx home_link) + 1
  sent_here =
      subst (λ (n : NodeNo). sent_in inc (sent_on now (record { from = here; to = n })) ≡ sent_in inc (sent_on tx (record { from = here; to = n })) + 1) at_here
      (ap (sent_in inc) (lookup_put link_cmp at.link (sent_more request (sent_on tx at.link)) (link_itself at.link) tx.sent) ∙ sent_again inc request (sent_on tx at.link) in_inc)

  sent_elsewhere : (peer : NodeNo) → peer.0 ≢ here.0 → sent_in inc (sent_on now (record { from = here; to = peer })) ≡ sent_in inc (sent_on tx (record { from = here; to = peer }))
  sent_elsewhere peer far = by (same_key_or link_cmp link_exact link_itself at.link (record { from = here; to = peer }))
    where
      by : (at.link ≡ record { from = here; to = peer }) ⊎ KeyApart link_cmp link_exact link_itself at.link (record { from = here; to = peer })
          → sent_in inc (sent_on now (record { from = here; to = peer })) ≡ sent_in inc (sent_on tx (record { from = here; to = peer }))
      by (inl same) = absurd (far (sym (ap (λ (l : Link). l.to.0) same) ∙ ap (λ (n : NodeNo). n.0) at_here))
      by (inr apart) = ap (sent_in inc) (lookup_put_apart link_cmp at.link (sent_more request (sent_on tx at.link)) (link_exact at.link) (is_at (link_cmp (record { from = here; to = peer }))) apart.at tx.sent)

  pub requests_here : requests_at now at ≡ requests_at tx at ++ request ∷ []
  requests_here = ap (λ (o : Option (List Request)). unwrap_or o []) (lookup_put request_cmp at (requests_at tx at ++ request ∷ []) (request_itself at) tx.requests)

  pub requests_apart : (other : RequestNo) → KeyApart request_cmp request_exact request_itself at other → requests_at now other ≡ requests_at tx other
  requests_apart other far = ap (λ (o : Option (List Request)). unwrap_or o []) (lookup_put_apart request_cmp at (requests_at tx at ++ request ∷ []) (request_exact at) (is_at (request_cmp other)) far.at tx.requests)

  -- of each number as many stand as before, or more
  stand_on : (member : Member) (other : RequestNo) → length (filter (is_standing member) (requests_at tx other)) ≤ length (filter (is_standing member) (requests_at now other))
  stand_on member other = by (same_key_or request_cmp request_exact request_itself at other)
    where
      by : (at ≡ other) ⊎ KeyApart request_cmp request_exact request_itself at other → length (filter (is_standing member) (requests_at tx other)) ≤ length (filter (is_standing member) (requests_at now other))
      by (inl same) = subst (λ (k : RequestNo). length (filter (is_standing member) (requests_at tx k)) ≤ length (filter (is_standing member) (requests_at now k))) same
          (rw requests_here (count_more (is_standing member) (requests_at tx at) request))
      by (inr far) = rw (requests_apart other far) (le_refl _)

  -- and of its own one more
  module _ (unserved : request.served ≡ false) (delivery : Delivery) (from : delivery.from ≡ here) (numbered : delivery.number ≡ number) where
    stands_more : length (filter (is_standing request.member) (requests_at now at)) ≡ suc (length (filter (is_standing request.member) (requests_at tx at)))
    stands_more =
        ap (λ (rs : List Request). length (filter (is_standing request.member) rs)) requests_here
        ∙ (ap length (filter_last (is_standing request.member) (requests_at tx at) request stands) ∙ length_more _ request)
      where
        stands : is_standing request.member request ≡ true
        stands = rw (same_member-self request.member, unserved) refl

    pub key_is : (other : RequestNo) → other.link.to ≡ here → is_numbered other delivery ≡ true → at ≡ other
    key_is other near is =
        let parts = and_parts (delivery.from.0 == other.link.from.0) (delivery.number == other.number) is in
        made here other.link.from request.member.node other.link.to number other.number
        (node_is here other.link.from (ap (λ (n : NodeNo). n.0) (sym from) ∙ eqb-true delivery.from.0 other.link.from.0 parts.0)) (at_here ∙ sym near) (sym numbered ∙ eqb-true delivery.number other.number parts.1)
      where
        node_is : (m n : NodeNo) → m.0 ≡ n.0 → m ≡ n
        node_is m n e = ap (λ (k : ℕ). record { 0 = k }) e

        made : (a b c d : NodeNo) (m n : ℕ) → a ≡ b → c ≡ d → m ≡ n → numbered_as a c m ≡ numbered_as b d n
        made a b c d m n p q r = ap (λ (x : NodeNo). numbered_as x c m) p ∙ (ap (λ (x : NodeNo). numbered_as b x m) q ∙ ap (numbered_as b d) r)

    queued_more : (waiting : List Delivery) (other : RequestNo) → other.link.to ≡ here → length (filter (is_numbered other) waiting) ≤ length (filter (is_standing request.member) (requests_at tx other))
        → length (filter (is_numbered other) (waiting ++ delivery ∷ [])) ≤ length (filter (is_standing request.member) (requests_at now other))
    queued_more waiting other near h = by (is_numbered other delivery) refl
      where
        by : (b : Bool) → is_numbered other delivery ≡ b → length (filter (is_numbered other) (waiting ++ delivery ∷ [])) ≤ length (filter (is_standing request.member) (requests_at now other))
        by true is =
            rw (filter_last (is_numbered other) waiting delivery is, length_more (filter (is_numbered other) waiting) delivery)
            (subst (λ (k : RequestNo). length (filter (is_numbered k) waiting) ≤ length (filter (is_standing request.member) (requests_at tx k)) → suc (length (filter (is_numbered k) waiting)) ≤ length (filter (is_standing request.member) (requests_at now k))) (key_is other near is)
            (λ bound. rw stands_more (rise _ _ bound)) h)
        by false is = rw (filter_more (is_numbered other) waiting delivery is) (le_le _ _ _ h (stand_on request.member other))

    -- ---- all of it

    issued_member : (member : Member) (m : MemberPart) → HoldsMember tx member inc m → HoldsMember now member inc m
    issued_member member m h = record { covers = h.covers; voted = h.voted; votes = h.votes; learns = h.learns; ends = h.ends }

    module _ (tid : Tid) (face : Face) (part : Participant) (outstanding : Outstanding) (waiting : ServerNo → List Delivery)
        (waits_here : waiting request.member.server ≡ face.waiting request.member.server ++ delivery ∷ [])
        (waits_elsewhere : (server : ServerNo) → server ≢ request.member.server → waiting server ≡ face.waiting server)
        (numbers : number ≡ face.local + 1) where
      issued_home : HoldsHome tx (Some part) → HoldsHome now (Some (participant.issued outstanding part))
      issued_home k = record {
        runs = λ is. refl;
        undecided = λ p same unknown. k.undecided part refl (ap (λ q. q.outcome) (some_same same) ∙ unknown);
        asked = λ p same still. k.asked part refl still ∙ ap (λ q. q.asked) (some_same same);
      }

      -- an own request at an own server
      queued_on : ((server : ServerNo) (other : RequestNo) → other.link.to ≡ here → length (filter (is_numbered other) (face.waiting server)) ≤ length (filter (is_standing (at_server here server)) (requests_at tx other)))
          → (server : ServerNo) (other : RequestNo) → other.link.to ≡ here → length (filter (is_numbered other) (waiting server)) ≤ length (filter (is_standing (at_server here server)) (requests_at now other))
      queued_on h server other near = by (server.0 == request.member.server.0) refl
        where
          server_is : (a b : ServerNo) → (a.0 == b.0) ≡ true → b ≡ a
          server_is a b e = ap (λ (k : ℕ). record { 0 = k }) (same b.0 a.0 e)
            where
              same : (m n : ℕ) → (n == m) ≡ true → m ≡ n
              same m n e = grind (arith, nat_tests, e)

          server_far : (a b : ServerNo) → (a.0 == b.0) ≡ false → a ≢ b
          server_far a b e same = equal_apart a.0 b.0 (ap (λ (s : ServerNo). s.0) same) e

          member_is : at_server here request.member.server ≡ request.member
          member_is = ap (λ (n : NodeNo). at_server n request.member.server) (sym at_here)

          by : (b : Bool) → (server.0 == request.member.server.0) ≡ b → length (filter (is_numbered other) (waiting server)) ≤ length (filter (is_standing (at_server here server)) (requests_at now other))
          by true is =
              subst (λ (s : ServerNo). length (filter (is_numbered other) (waiting s)) ≤ length (filter (is_standing (at_server here s)) (requests_at now other))) (server_is server request.member.server is)
              (rw waits_here (subst (λ (m : Member). length (filter (is_numbered other) (face.waiting request.member.server ++ delivery ∷ [])) ≤ length (filter (is_standing m) (requests_at now other))) (sym member_is)
              (queued_more (face.waiting request.member.server) other near
              (subst (λ (m : Member). length (filter (is_numbered other) (face.waiting request.member.server)) ≤ length (filter (is_standing m) (requests_at tx other))) member_is (h request.member.server other near)))))
          by false is = rw (waits_elsewhere server (server_far server request.member.server is)) (le_le _ _ _ (h server other near) (stand_on (at_server here server) other))

      pub issued_tid : HoldsTid here inc tid tx (record face { known = Some part })
          → HoldsTid here inc tid now (record face { known = Some (participant.issued outstanding part); local = number; waiting = waiting })
      issued_tid h = record {
        sized = h.sized;
        members = λ held server kept. issued_member _ _ (h.members refl server kept);
        asked = h.asked;
        outcome = h.outcome;
        silent = h.silent;
        local = sent_here ∙ (ap (λ (n : ℕ). n + 1) h.local ∙ sym numbers);
        sent = λ held peer far. sent_elsewhere peer far ∙ h.sent refl peer far;
        pending = h.pending;
        noted = λ held count some is. noted_on count (h.noted refl count some is);
        queued = queued_on h.queued;
        made = h.made;
        yielded = h.yielded;
        home = λ near in_it. issued_home (h.home near in_it);
      }
        where
          noted_on : (count : ℕ) → (has_noted count part ≡ true) ⊎ (awaits_note part ≡ true) → (has_noted count part ≡ true) ⊎ (awaits_note (participant.issued outstanding part) ≡ true)
          noted_on count (inl is) = inl is
          noted_on count (inr is) = inr (any_more is_by_files part.waiting outstanding is)
