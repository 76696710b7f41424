-- The calls of a receiving end, line by line.
use Rattle.std.proofs.Common.{◌≡◌, ℕ, ◌+◌, ◌-◌, ◌≤◌, Bool, List, [], ◌∷◌, ◌++◌, length, take, drop, Ok, Result, sym, refl, ap, ◌∙◌, subst, arith, take-add}
use Rattle.std.proofs.lemmas.List.{take-take, drop-take, drop-drop, append-nil, length-take-le, take-append-drop}
use Rattle.std.proofs.lemmas.List.Sums.{fold_push}
use Rattle.mode.specs.Meaning.{Meaning}
use Rattle.tube.specs.Part.{part}
use Rattle.link.specs.declared.fault.EndFault.{EndFault}
use Rattle.receiver.specs.declared.answer.Opened.{Opened}
use Rattle.receiver.specs.Run.{Run, State, GoesOn}
use Rattle.receiver.specs.Trace.{Event, opens}
use Rattle.exchange.specs.declared.records.ReceiveCall.{ReceiveCall}
use Rattle.exchange.specs.declared.records.ReceiveCall.TheVariants as call
use Rattle.exchange.specs.declared.records.ReceiveLine.{ReceiveLine}
use Rattle.exchange.specs.declared.records.ReceiveOutcome.{ReceiveOutcome}
use Rattle.exchange.specs.declared.records.ReceiveOutcome.TheVariants as outcome
use Rattle.exchange.specs.Receives.{bytes_at, Fits, Lined, entered, trace_after, size_of, asked, held_after, handed_over}
use Rattle.exchange.specs.Leads.{OpenTo, Leads, LeadsAll, held_by, reach}

-- ---- one open

pub open_to : (m : Meaning) (tube : List ℕ) (r r' work : ℕ) (st : State) (left : ℕ) (answer : Result Opened EndFault) (x x' : List ℕ) (st' : State) (left' : ℕ) → r ≡ r' → x ≡ x'
    → GoesOn m st left (opens record { tube = tube; room = r; work = work; answer = answer; contents = x }) st' left' → OpenTo m tube r' work st left answer x' st' left'
open_to m tube r r' work st left answer x x' st' left' er ex go s floor start past run =
    subst (λ y. Run m s floor start (opens record { tube = tube; room = r'; work = work; answer = answer; contents = y } ∷ past) st' left') ex
    (subst (λ y. Run m s floor start (opens record { tube = tube; room = y; work = work; answer = answer; contents = x } ∷ past) st' left') er (go s floor start past run))

-- ---- one more line
pub reach_mono : (lines : List ReceiveLine) (place : ℕ) → place ≤ reach place lines
reach_mono [] place = omega arith
reach_mono (x ∷ xs) place = omega (arith, reach_mono xs (place + size_of x.outcome))

same_part : (place n R : ℕ) (out out' : List ℕ) → place + n ≤ R → take R out ≡ take R out' → bytes_at out place n ≡ bytes_at out' place n
same_part place n R out out' h e =
    sym (drop-take place n out) ∙ ap (drop place) (sym (take-take (place + n) R out h) ∙ ap (take (place + n)) e ∙ take-take (place + n) R out' h) ∙ drop-take place n out'

-- what was handed over stays
enter_same : (wire out out' : List ℕ) (past : List Event) (W room K place R : ℕ) (held : Bool) (c : ReceiveCall) (o : ReceiveOutcome) → Fits W room K held place c o → place + size_of o ≤ R
    → take R out ≡ take R out' → entered wire out past c o ≡ entered wire out' past c o
enter_same wire out out' past W room K place R held c (outcome.Handed a at) f h e =
    let q : at ≡ place = f.2 in
    ap (λ x. asked wire past c (Ok a) (bytes_at out x a.contents_len)) q ∙ ap (asked wire past c (Ok a)) (same_part place a.contents_len R out out' h e)
    ∙ ap (λ x. asked wire past c (Ok a) (bytes_at out' x a.contents_len)) (sym q)
enter_same wire out out' past W room K place R held c (outcome.Refused f) h l e = refl
enter_same wire out out' past W room K place R held c (outcome.Signed k) h l e = refl
enter_same wire out out' past W room K place R held c outcome.GivenBack h l e = refl
enter_same wire out out' past W room K place R held c outcome.Passed h l e = refl

stable : (wire out out' : List ℕ) (W O K : ℕ) (lines : List ReceiveLine) (held : Bool) (place : ℕ) (past : List Event) → Lined W O K held place lines
    → take (reach place lines) out ≡ take (reach place lines) out' → trace_after wire out past lines ≡ trace_after wire out' past lines
stable wire out out' W O K [] held place past l e = refl
stable wire out out' W O K (x ∷ xs) held place past l e =
    stable wire out out' W O K xs (held_after held x.outcome) (place + size_of x.outcome) (entered wire out past x.call x.outcome) l.1 e
    ∙ ap (λ p. trace_after wire out' p xs)
    (enter_same wire out out' past W (O - place) K place (reach place (x ∷ xs)) held x.call x.outcome l.0 (reach_mono xs (place + size_of x.outcome)) e)

pub leads_more : (m m' : Meaning) (wire out out' : List ℕ) (W O K : ℕ) (held : Bool) (used : ℕ) (st mid last : State) (left part rest : ℕ) (lines : List ReceiveLine) (x : ReceiveLine)
    → m' ≡ m → Lined W O K held 0 lines → used ≡ reach 0 lines → take used out' ≡ take used out
    → LeadsAll m wire out st left lines mid part → Leads m' wire out' x.call mid part x.outcome last rest
    → LeadsAll m wire out' st left (lines ++ x ∷ []) last rest
leads_more m m' wire out out' W O K held used st mid last left part rest lines x em l eu front all one s floor start past r =
    let e : take (reach 0 lines) out ≡ take (reach 0 lines) out' = subst (λ n. take n out ≡ take n out') eu (sym front) in
    let one' : Leads m wire out' x.call mid part x.outcome last rest = subst (λ y. Leads y wire out' x.call mid part x.outcome last rest) em one in
    let all' : Run m s floor start (trace_after wire out' past lines) mid part = subst (λ t. Run m s floor start t mid part) (stable wire out out' W O K lines held 0 past l e) (all s floor start past r) in
    subst (λ t. Run m s floor start t last rest) (sym (fold_push (λ p (h : ReceiveLine). entered wire out' p h.call h.outcome) past lines x)) (one' s floor start (trace_after wire out' past lines) all')

pub lined_more : (W O K : ℕ) (held : Bool) (place : ℕ) (lines : List ReceiveLine) (x : ReceiveLine) → Lined W O K held place lines
    → Fits W (O - reach place lines) K (held_by held lines) (reach place lines) x.call x.outcome → Lined W O K held place (lines ++ x ∷ [])
lined_more W O K held place [] x l f = (f, tt)
lined_more W O K held place (y ∷ ys) x l f = (l.0, lined_more W O K (held_after held y.outcome) (place + size_of y.outcome) ys x l.1 f)

pub fits_same : (W O O' K K' : ℕ) (held held' : Bool) (used used' : ℕ) (c : ReceiveCall) (o : ReceiveOutcome) → O' ≡ O → K' ≡ K → held' ≡ held → used' ≡ used
    → Fits W (O' - used') K' held' used' c o → Fits W (O - used) K held used c o
fits_same W O O' K K' held held' used used' c o eo ek eh eu f =
    subst (λ n. Fits W (O - n) K held n c o) eu
    (subst (λ h. Fits W (O - used') K h used' c o) eh (subst (λ k. Fits W (O - used') k held' used' c o) ek (subst (λ n. Fits W (n - used') K' held' used' c o) eo f)))

pub reach_push : (lines : List ReceiveLine) (x : ReceiveLine) → reach 0 (lines ++ x ∷ []) ≡ reach 0 lines + size_of x.outcome
reach_push lines x = fold_push (λ n (y : ReceiveLine). n + size_of y.outcome) 0 lines x

pub held_push : (held : Bool) (lines : List ReceiveLine) (x : ReceiveLine) → held_by held (lines ++ x ∷ []) ≡ held_after (held_by held lines) x.outcome
held_push held lines x = fold_push (λ h (y : ReceiveLine). held_after h y.outcome) held lines x

-- what goes on as it was beyond the used bytes
pub drop_further : (used n : ℕ) (before mid after : List ℕ) → drop used mid ≡ drop used before → drop (used + n) after ≡ drop (used + n) mid → drop (used + n) after ≡ drop (used + n) before
drop_further used n before mid after e f = f ∙ sym (drop-drop n used mid) ∙ ap (drop n) e ∙ drop-drop n used before

-- ---- the output part as a whole: the contents one after another, then the rest
enter_hands : (wire out : List ℕ) (past : List Event) (W room K place : ℕ) (held : Bool) (c : ReceiveCall) (o : ReceiveOutcome) → Fits W room K held place c o
    → handed_over (entered wire out past c o) ≡ handed_over past ++ bytes_at out place (size_of o)
enter_hands wire out past W room K place held (call.Open order) (outcome.Handed a at) f = ap (λ x. handed_over past ++ bytes_at out x a.contents_len) f.2
enter_hands wire out past W room K place held call.Sign (outcome.Handed a at) f = absurd f.1
enter_hands wire out past W room K place held call.GiveBack (outcome.Handed a at) f = absurd f.1
enter_hands wire out past W room K place held (call.Open order) (outcome.Refused g) f = refl
enter_hands wire out past W room K place held call.Sign (outcome.Refused g) f = absurd f.1
enter_hands wire out past W room K place held call.GiveBack (outcome.Refused g) f = absurd f.1
enter_hands wire out past W room K place held c (outcome.Signed k) f = sym (append-nil (handed_over past))
enter_hands wire out past W room K place held c outcome.GivenBack f = sym (append-nil (handed_over past))
enter_hands wire out past W room K place held c outcome.Passed f = sym (append-nil (handed_over past))

pub hands_all : (wire out : List ℕ) (W O K : ℕ) (lines : List ReceiveLine) (held : Bool) (place : ℕ) (past : List Event) → Lined W O K held place lines
    → handed_over past ≡ take place out → handed_over (trace_after wire out past lines) ≡ take (reach place lines) out
hands_all wire out W O K [] held place past l e = e
hands_all wire out W O K (x ∷ xs) held place past l e =
    hands_all wire out W O K xs (held_after held x.outcome) (place + size_of x.outcome) (entered wire out past x.call x.outcome) l.1
    (enter_hands wire out past W (O - place) K place held x.call x.outcome l.0 ∙ ap (λ y. y ++ bytes_at out place (size_of x.outcome)) e
    ∙ sym (take-add place (size_of x.outcome) out))

pub out_whole : (R : ℕ) (before after hands : List ℕ) → hands ≡ take R after → R ≤ length after → drop R after ≡ drop R before → after ≡ hands ++ drop (length hands) before
out_whole R before after hands e h d =
    let l : length hands ≡ R = ap length e ∙ length-take-le R after h in
    sym (take-append-drop R after) ∙ ap (λ x. x ++ drop R after) (sym e) ∙ ap (λ x. hands ++ x) (d ∙ ap (λ n. drop n before) (sym l))
