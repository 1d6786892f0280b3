use Rattle.std.proofs.Common.{sym, subst}
use Rattle.std.proofs.lemmas.Result.{IfOk-weaker}
use Rattle.mont_base.specs.Image.{IsPermitted, IsRecovered}
use Rattle.mont_base.specs.Layout.{Shape}
use Rattle.plain.specs.States.{states_of}
use Rattle.store_stop.proofs.Outliving.{stopped_stores_outlive_crashes}
use Rattle.store_example.specs.Outlived.{OutlivesStop}
use Rattle.store_example.proofs.crash.recover_after_crash.Goals as goal

pub returns : goal.returns
returns c =
    let t = c.args.stopped.now in
    let store = c.requires in
    let image = c.as_slice.result.now in
    let permitted = subst (IsPermitted t.words.cur t.words.dur) (sym c.as_slice.ensures) c.in_ok-image.ensures.permitted in
    IfOk-weaker c.recover.result (λ contents. IsRecovered t.words.layout image (states_of contents))
    (λ contents. OutlivesStop t (states_of contents))
    (λ contents recovered.
    let rebuilt = subst (λ (s : Shape). IsRecovered s image (states_of contents)) store.stopped.layout recovered in
    record {
      store = store;
      image = image;
      permitted = permitted;
      recovered = rebuilt;
      outlives = stopped_stores_outlive_crashes store.layout t.base_clock t.base store.callers t image (states_of contents) store.stopped
          permitted rebuilt;
    }) c.recover.ensures
