-- What holds of all sends together, and of the opens of their tubes.
use Rattle.std.proofs.Common.{◌≡◌, ℕ, ◌+◌, ◌-◌, ◌≤◌, Bool, true, false, cond, List, [], ◌∷◌, ◌++◌, length, drop, Some, None, Ok, fold, Option, Result, sym, refl, ap, ◌∙◌, subst, arith, length-append}
use Rattle.std.proofs.lemmas.List.{take_at}
use Rattle.refusal.specs.Cause.{first, unless}
use Rattle.cipher.specs.Left.{no_end, spent}
use Rattle.mode.specs.declared.set.ParameterSet.{ParameterSet}
use Rattle.mode.specs.Meaning.{Meaning, Lawful}
use Rattle.tube.specs.declared.fault.TubeFault.{TubeFault}
use Rattle.tube.specs.declared.tube.Tube.{Tube}
use Rattle.tube.specs.Read.{parsed}
use Rattle.tube.specs.Write.{nonce_of}
use Rattle.tube.proofs.Numbers.{nonce_length}
use Rattle.link.specs.declared.fault.EndFault.{EndFault}
use Rattle.sender.specs.Carry.{Carries}
use Rattle.sender.specs.Send.{sent, unsent, send_causes, sealed_tube, tube_size, Passes}
use Rattle.sender.proofs.Sizes.{number_fits}
use Rattle.sender.proofs.Tubes.{carries, sealed_length}
use Rattle.sender.proofs.Verdicts.{accepted}
use Rattle.receiver.specs.Sent.{Sent}
use Rattle.receiver.specs.Sent as read
use Rattle.receiver.specs.Trace.{Event, opens, signs, returns, Opening, counted, signed_in, IsDue, Suffice, SealedAs, Right, Counted}
use Rattle.receiver.specs.Trace as trace
use Rattle.receiver.proofs.Written.{readable}
use Rattle.exchange.specs.declared.records.SendOrder.{SendOrder}
use Rattle.exchange.specs.Sends.{Sends, SentTube, added, passed_over, ordered, send_all, bytes_of, lies, label_of, contents_of, verdict_to, Numbered, Each, runs_of}
use Rattle.exchange.specs.Exchanged.{Agree, OpensAs, Delivers}
use Rattle.exchange.proofs.Counts.{counted_step, counted_none}

-- ---- lists that grow by one
numbered_push : (k : ℕ) (xs : List SentTube) (x : SentTube) → Numbered k xs → x.number ≡ k + length xs → Numbered k (xs ++ x ∷ [])
numbered_push k [] x h e = (e ∙ omega arith, tt)
numbered_push k (y ∷ ys) x h e = (h.0, numbered_push (k + 1) ys x h.1 (e ∙ omega arith))

each_push : (P : SentTube → Type 0) (xs : List SentTube) (x : SentTube) → Each P xs → P x → Each P (xs ++ x ∷ [])
each_push P [] x h p = (p, tt)
each_push P (y ∷ ys) x h p = (h.0, each_push P ys x h.1 p)

pub each_map : (P Q : SentTube → Type 0) (xs : List SentTube) → ((x : SentTube) → P x → Q x) → Each P xs → Each Q xs
each_map P Q [] f h = tt
each_map P Q (y ∷ ys) f h = (f y h.0, each_map P Q ys f h.1)

runs_push : (xs : List SentTube) (x : SentTube) → runs_of (xs ++ x ∷ []) ≡ runs_of xs + x.count
runs_push [] x = omega arith
runs_push (y ∷ ys) x = ap (λ n. y.count + n) (runs_push ys x) ∙ omega arith

-- ---- all sends
module _ (sm rm : Meaning) (s : ParameterSet) (law : Lawful sm) (read-law : Lawful rm) (start left : ℕ) (low : 1 ≤ start) (bound : left ≤ no_end) where
  -- what holds of one tube: it carries what it was given, and where the sealing functions agree the receiver reads it as sealed so
  pub record Holds (x : SentTube) : Type 0 where
    pub carried : Carries sm s x.number x.label x.contents x.tube
    pub agreed : Agree sm rm s → Sent rm s x.number x.label x.contents x.tube

  pub record Good (p : Sends) : Type 0 where
    pub next : p.next ≡ start + length p.tubes
    pub numbered : Numbered start p.tubes
    pub each : Each Holds p.tubes
    pub runs : Counted left (runs_of p.tubes) p.left

  one_holds : (k rest : ℕ) (A M : List ℕ) (out : ℕ) → Passes sm rest s k (length A) (length M) out → 1 ≤ k
      → Holds (record { number = k; label = A; contents = M; tube = sealed_tube sm s (nonce_of s.nonce k) A M; count = sm.seal_runs (length A) (length M) })
  one_holds k rest A M out q l =
      let N = nonce_of s.nonce k in
      let W = sealed_tube sm s N A M in
      let size = tube_size s (length A) (length M) in
      let long : length W ≡ size = sealed_length sm law rest s N A M k out q (nonce_length s.nonce k) in
      record {
        carried = subst (λ b. Carries sm s k A M b) (take_at W (drop size []) size long) (carries sm law rest s k A M out q l size (W ++ drop size []) [] refl refl);
        agreed = λ g. subst (λ z. Sent rm s k A M (read.sealed_tube s k A z)) (sym (g.1 N A M)) (readable rm s k A M read-law g.0 (number_fits s k q.numbers) q.labels q.texts);
      }

  good_by : (p : Sends) (o : SendOrder) (A M : List ℕ) (out work : ℕ) (v : Option EndFault) → first (send_causes sm p.left s p.next (length A) (length M) out work) ≡ v → Good p
      → Good (added p o A M (unless v unsent (sent (record { len = tube_size s (length A) (length M); count = sm.seal_runs (length A) (length M) }) (sealed_tube sm s (nonce_of s.nonce p.next) A M))))
  good_by p o A M out work (Some f) e h = record { next = h.next; numbered = h.numbered; each = h.each; runs = h.runs }
  good_by p o A M out work None e h =
      let q = accepted sm p.left s p.next (length A) (length M) out work e in
      let count = sm.seal_runs (length A) (length M) in
      let x : SentTube = record { number = p.next; label = A; contents = M; tube = sealed_tube sm s (nonce_of s.nonce p.next) A M; count = count } in
      record {
        next = omega (arith, h.next, length-append p.tubes (x ∷ []));
        numbered = numbered_push start p.tubes x h.numbered h.next;
        each = each_push Holds p.tubes x h.each (one_holds p.next p.left A M out q (omega (arith, h.next, low)));
        runs = subst (λ n. Counted left n (spent p.left count)) (sym (runs_push p.tubes x)) (counted_step left (runs_of p.tubes) p.left count bound h.runs q.runs);
      }

  good_cond : (b : Bool) (p q : Sends) → Good p → Good q → Good (cond b p q)
  good_cond true p q h k = h
  good_cond false p q h k = k

  good_from : (bytes : List ℕ) (W K : ℕ) (p : Sends) (orders : List SendOrder) → Good p → Good (fold (λ q o. ordered sm s bytes W K q o) p orders)
  good_from bytes W K p [] h = h
  good_from bytes W K p (o ∷ os) h =
      good_from bytes W K (ordered sm s bytes W K p o) os
      (good_cond (lies (length bytes) (W - length (bytes_of p.tubes)) K o) (added p o (label_of bytes o) (contents_of bytes o) (verdict_to sm p.left s p.next bytes o)) (passed_over p o)
      (good_by p o (label_of bytes o) (contents_of bytes o) o.room o.work (first (send_causes sm p.left s p.next (length (label_of bytes o)) (length (contents_of bytes o)) o.room o.work)) refl h)
      (record { next = h.next; numbered = h.numbered; each = h.each; runs = h.runs }))

  pub all_good : (bytes : List ℕ) (W K : ℕ) (orders : List SendOrder) → Good (send_all sm s bytes W K start left orders)
  all_good bytes W K orders =
      good_from bytes W K (record { next = start; left = left; tubes = []; lines = [] }) orders (record { next = omega arith; numbered = tt; each = tt; runs = counted_none left })

  -- ---- the opens of the tubes sent
  module _ (agree : Agree sm rm s) (floor top : ℕ) where
    same_read : (r : Result Tube TubeFault) (t u : Tube) → r ≡ Ok t → r ≡ Ok u → t ≡ u
    same_read r t u e f = cc

    opens_as : (rest : ℕ) (ks : List ℕ) (x : SentTube) (o : Opening) → Right rm s floor rest ks o → Holds x → o.tube ≡ x.tube → OpensAs rm s floor rest ks x o
    opens_as rest ks x o right h e =
        let t : Sent rm s x.number x.label x.contents o.tube = subst (λ b. Sent rm s x.number x.label x.contents b) (sym e) (h.agreed agree) in
        let u = t.tube in
        record {
          tube = u;
          form = t.form;
          number = t.number;
          label = t.label;
          seals = t.seals;
          hands = λ M. (
            (λ g.
                let d = (right.hands M).0 g in
                let q : d.tube ≡ u = same_read (parsed o.tube) d.tube u d.form t.form in
                let due : IsDue s floor ks u = subst (λ y. IsDue s floor ks y) q d.due in
                let seals : SealedAs rm s o.tube u M = subst (λ y. SealedAs rm s o.tube y M) q d.seals in
                (right.alone u M x.contents agree.0 t.form due seals t.seals, due, subst (λ y. Suffice rm rest o.room o.work y) q d.suffice)),
            (λ g. (right.hands M).1 (record { tube = u; form = t.form; ours = agree.0; due = g.1; suffice = g.2; seals = subst (λ y. SealedAs rm s o.tube u y) (sym g.0) t.seals })),
          );
        }

    pub delivers : (x : SentTube) (past : List Event) → trace.Each rm s floor top past → Holds x → Delivers rm s floor top x past
    delivers x [] p h = tt
    delivers x (opens o ∷ past) p h = ((λ e. opens_as (spent top (counted past)) (signed_in past) x o p.0 h e), delivers x past p.1 h)
    delivers x (signs k ∷ past) p h = delivers x past p.1 h
    delivers x (returns ∷ past) p h = delivers x past p.1 h
