-- The sends, order by order.
use Rattle.std.proofs.Common.{◌≡◌, ℕ, ◌+◌, ◌-◌, ◌≤◌, Bool, true, false, cond, List, [], ◌∷◌, ◌++◌, length, take, drop, Some, None, fold, Option, sym, refl, ap, ◌∙◌, append_assoc, arith, length-append}
use borrow.Rule.Slice.PartMut.{put_mid}
use Rattle.std.proofs.lemmas.List.{append-nil}
use Rattle.refusal.specs.Cause.{first, unless}
use Rattle.mode.specs.declared.set.ParameterSet.{ParameterSet}
use Rattle.mode.specs.Meaning.{Meaning, Lawful}
use Rattle.tube.specs.Put.{Laid}
use Rattle.tube.specs.Write.{nonce_of}
use Rattle.tube.proofs.Numbers.{nonce_length}
use Rattle.link.specs.declared.fault.EndFault.{EndFault}
use Rattle.sender.specs.Send.{SendVerdict, sent, unsent, send_verdict, send_causes, sealed_tube, tube_size, send_out, send_left, send_next}
use Rattle.sender.proofs.Tubes.{sealed_length}
use Rattle.sender.proofs.Verdicts.{accepted}
use Rattle.exchange.specs.declared.records.SendOrder.{SendOrder}
use Rattle.exchange.specs.declared.records.SendOutcome.TheVariants as outcome
use Rattle.exchange.specs.Sends.{Sends, SentTube, added, passed_over, ordered, bytes_of, outcome_of, tube_in, len_of, lies, label_of, contents_of, verdict_to, work_by, lent_work}
use Rattle.exchange.proofs.Cuts.{laid_part}

pub laid_sent : (v : SendVerdict) (at k : ℕ) (before ys : List ℕ) → at + k ≤ length before → ys ≡ send_out v (take k (drop at before)) → length ys ≡ k → Laid at (tube_in v) before (put_mid at k before ys)
laid_sent (sent x tube) at k before ys fits e l = laid_part at k before tube ys fits e l
laid_sent (unsent f) at k before ys fits e l = laid_part at k before [] ys fits e l

-- a call was made: the part of the work memory lent to it
pub work_called : (v : SendVerdict) (n : ℕ) (work : List ℕ) → lent_work n work ≡ work_by (outcome_of v) n work
work_called (sent x tube) n work = refl
work_called (unsent f) n work = refl

module _ (m : Meaning) (left : ℕ) (s : ParameterSet) (k : ℕ) (A M : List ℕ) (out work : ℕ) where
  abbrev verdict : Option EndFault → SendVerdict
  verdict o = unless o unsent (sent (record { len = tube_size s (length A) (length M); count = m.seal_runs (length A) (length M) }) (sealed_tube m s (nonce_of s.nonce k) A M))

  -- a send answers its tube's length
  long_by : Lawful m → (o : Option EndFault) → first (send_causes m left s k (length A) (length M) out work) ≡ o → len_of (outcome_of (verdict o)) ≡ length (tube_in (verdict o))
  long_by law None e =
      sym (sealed_length m law left s (nonce_of s.nonce k) A M k out (accepted m left s k (length A) (length M) out work e) (nonce_length s.nonce k))
  long_by law (Some f) e = refl

  pub sent_long : Lawful m → len_of (outcome_of (send_verdict m left s k A M out work)) ≡ length (tube_in (send_verdict m left s k A M out work))
  sent_long law = long_by law (first (send_causes m left s k (length A) (length M) out work)) refl

  room_by : (o : Option EndFault) → first (send_causes m left s k (length A) (length M) out work) ≡ o → len_of (outcome_of (verdict o)) ≤ out
  room_by None e = (accepted m left s k (length A) (length M) out work e).rooms
  room_by (Some f) e = omega arith

  pub sent_room : len_of (outcome_of (send_verdict m left s k A M out work)) ≤ out
  sent_room = room_by (first (send_causes m left s k (length A) (length M) out work)) refl

bytes_push : (xs : List SentTube) (x : SentTube) → bytes_of (xs ++ x ∷ []) ≡ bytes_of xs ++ x.tube
bytes_push [] x = append-nil x.tube
bytes_push (y ∷ ys) x = ap (λ z. y.tube ++ z) (bytes_push ys x) ∙ sym (append_assoc y.tube (bytes_of ys) x.tube)

-- the sends after one order more
pub record After (b : Bool) (v : SendVerdict) (p : Sends) (o : SendOrder) (q : Sends) : Type 0 where
  pub next : q.next ≡ cond b (send_next v p.next) p.next
  pub left : q.left ≡ cond b (send_left v p.left) p.left
  pub laid : bytes_of q.tubes ≡ bytes_of p.tubes ++ cond b (tube_in v) []
  pub lines : q.lines ≡ p.lines ++ (record { order = o; outcome = cond b (outcome_of v) outcome.Passed } ∷ [])

pub after : (b : Bool) (v : SendVerdict) (p : Sends) (o : SendOrder) (A M : List ℕ) → After b v p o (cond b (added p o A M v) (passed_over p o))
after true (sent x tube) p o A M = record {
  next = refl;
  left = refl;
  laid = bytes_push p.tubes (record { number = p.next; label = A; contents = M; tube = tube; count = x.count });
  lines = refl;
}
after true (unsent f) p o A M = record { next = refl; left = refl; laid = sym (append-nil (bytes_of p.tubes)); lines = refl }
after false v p o A M = record { next = refl; left = refl; laid = sym (append-nil (bytes_of p.tubes)); lines = refl }

-- one turn of the loop, of plain values: what the call did (of bL and VL) is what the definition says (of bP and VP)
module _ (bL bP : Bool) (VL VP : SendVerdict) (eb : bL ≡ bP) (ev : VL ≡ VP) where
  pub same_outcome : cond bL (outcome_of VL) outcome.Passed ≡ cond bP (outcome_of VP) outcome.Passed
  same_outcome = ap (λ b. cond b (outcome_of VL) outcome.Passed) eb ∙ ap (λ v. cond bP (outcome_of v) outcome.Passed) ev

  same_tube : cond bL (tube_in VL) [] ≡ cond bP (tube_in VP) []
  same_tube = ap (λ b. cond b (tube_in VL) []) eb ∙ ap (λ v. cond bP (tube_in v) []) ev

  module _ (P Q : Sends) (o : SendOrder) (h : After bP VP P o Q) where
    pub turn_next : (n n' : ℕ) → n ≡ P.next → n' ≡ cond bL (send_next VL n) n → n' ≡ Q.next
    turn_next n n' e f =
        f ∙ ap (λ b. cond b (send_next VL n) n) eb ∙ ap (λ v. cond bP (send_next v n) n) ev ∙ ap (λ x. cond bP (send_next VP x) x) e ∙ sym h.next

    pub turn_left : (n n' : ℕ) → n ≡ P.left → n' ≡ cond bL (send_left VL n) n → n' ≡ Q.left
    turn_left n n' e f =
        f ∙ ap (λ b. cond b (send_left VL n) n) eb ∙ ap (λ v. cond bP (send_left v n) n) ev ∙ ap (λ x. cond bP (send_left VP x) x) e ∙ sym h.left

    joins : bytes_of P.tubes ++ cond bL (tube_in VL) [] ≡ bytes_of Q.tubes
    joins = ap (λ x. bytes_of P.tubes ++ x) same_tube ∙ sym h.laid

    pub turn_used : (used len : ℕ) → used ≡ length (bytes_of P.tubes) → len ≡ length (cond bL (tube_in VL) []) → used + len ≡ length (bytes_of Q.tubes)
    turn_used used len e f = omega (arith, length-append (bytes_of P.tubes) (cond bL (tube_in VL) []), ap length joins)

    pub turn_wire : (used len : ℕ) (wire wire' before : List ℕ) → used ≡ length (bytes_of P.tubes) → len ≡ length (cond bL (tube_in VL) [])
        → wire ≡ bytes_of P.tubes ++ drop used before → Laid used (cond bL (tube_in VL) []) wire wire' → wire' ≡ bytes_of Q.tubes ++ drop (used + len) before
    turn_wire used len wire wire' before e f w laid =
        laid (bytes_of P.tubes) before (w ∙ ap (λ n. bytes_of P.tubes ++ drop n before) e) e
        ∙ ap (λ t. t ++ drop (length t) before) joins
        ∙ ap (λ n. bytes_of Q.tubes ++ drop n before) (sym (turn_used used len e f))

-- a line for every order
pub lines_long : (m : Meaning) (s : ParameterSet) (bytes : List ℕ) (W K : ℕ) (p : Sends) (orders : List SendOrder)
    → length (fold (λ q o. ordered m s bytes W K q o) p orders).lines ≡ length p.lines + length orders
lines_long m s bytes W K p [] = omega arith
lines_long m s bytes W K p (o ∷ os) =
    let b = lies (length bytes) (W - length (bytes_of p.tubes)) K o in
    let v = verdict_to m p.left s p.next bytes o in
    let h = after b v p o (label_of bytes o) (contents_of bytes o) in
    lines_long m s bytes W K (ordered m s bytes W K p o) os
    ∙ omega (arith, ap length h.lines, length-append p.lines (record { order = o; outcome = cond b (outcome_of v) outcome.Passed } ∷ []))
