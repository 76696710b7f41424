use Rattle.std.proofs.Common.{refl}
use Rattle.worked.proofs.worked_values.Goals as goal

-- each by computation
pub returns : goal.returns
returns c = record {
  table = record {
    by_f1 = refl;
    by_f2 = refl;
    by_g1 = refl;
    by_h = refl;
    led = refl;
    present = refl;
    cloc_none = λ E. refl;
    cloc_some = λ E. refl;
    silc_none = λ E. refl;
    silc_some = λ E. refl;
    silc_wrong = λ E. refl;
    six = refl;
    seven = refl;
    seventy = refl;
    long = λ code param x y. refl;
    short = λ code param x y. refl;
    more = λ code param x y z. refl;
  };
  lines = refl;
}
