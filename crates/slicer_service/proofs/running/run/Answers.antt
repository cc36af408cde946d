use Rattle.std.proofs.Common.{◌≡◌, ◌⊎◌, ◌∙◌, ℕ, List, Option, Some, Err, map, string_bytes, sym, ap, subst, inl, inr}
use Rattle.edge_io.specs.Reads.{appended}
use Rattle.words.specs.declared.request.Request.{Request}
use Rattle.words.specs.declared.request.WordsError.{WordsError}
use Rattle.words.specs.Asking.{asked}
use Rattle.run_form.specs.Endings.{RunsAs, AreSteady, Says, KeepsFiles}
use Rattle.slicer_service.proofs.Requests.{keeps_same}
use Rattle.slicer_service.proofs.Asked.{same_request, by_words, headline, complete, accepted, says_unasked, unasked_kinds, usage_said, steady_unasked, not_usage, served_status, unasked_status, not_served, no_fault_when_steady}
use Rattle.slicer_service.proofs.running.run.Goals as goal

-- ---- a request is served
pub returns-in-Ok-clause-headline : goal.returns-in-Ok-clause-headline
returns-in-Ok-clause-headline g c = λ r is steady ends.
    let h = g.H.Host in
    let b = c.args.host.now in
    let a = c.serve_request.new.host in
    let s = c.serve_request.ensures in
    let q = c.in-Ok.request in
    let same : q ≡ r = same_request (asked (map string_bytes c.args.words.now)) q r c.in-Ok.ensures.asked.request is in
    let ends_of = subst (λ (x : Request). AreSteady (h.source_steady b) (h.sink_steady b) x.scripts) (sym same) ends in
    let all = headline (h.files b) (h.files a) (h.said b) (h.said a) (h.source_steady b) (h.sink_steady b) q c.serve_request.result s.kinds s.done (λ three. s.cause three steady) s.refused s.ends ends_of in
    subst (λ (x : Request). (c.serve_request.result ≡ 1) ⊎ RunsAs (h.files b) (h.files a) (h.said b) (h.said a) (Some x) c.serve_request.result) same all

pub returns-in-Ok-clause-complete : goal.returns-in-Ok-clause-complete
returns-in-Ok-clause-complete g c = λ r is steady ends.
    let h = g.H.Host in
    complete c.one_run.ensures (h.files c.args.host.now) (h.files c.serve_request.new.host) (h.said c.args.host.now) (h.said c.serve_request.new.host) r c.serve_request.result
    (returns-in-Ok-clause-headline g c r is steady ends)

pub returns-in-Ok-clause-accepted : goal.returns-in-Ok-clause-accepted
returns-in-Ok-clause-accepted g c = λ r is steady ends.
    let h = g.H.Host in
    accepted c.one_end.ensures.not_both (h.files c.args.host.now) (h.files c.serve_request.new.host) (h.said c.args.host.now) (h.said c.serve_request.new.host) r c.serve_request.result is.scripts
    (returns-in-Ok-clause-headline g c r is.request steady ends)

pub returns-in-Ok-clause-statuses : goal.returns-in-Ok-clause-statuses
returns-in-Ok-clause-statuses g c = served_status c.serve_request.result c.serve_request.ensures.kinds

pub returns-in-Ok-clause-done : goal.returns-in-Ok-clause-done
returns-in-Ok-clause-done g c = λ e.
    let h = g.H.Host in
    by_words (asked (map string_bytes c.args.words.now)) c.in-Ok.request c.in-Ok.ensures.asked.request
    (λ o. RunsAs (h.files c.args.host.now) (h.files c.serve_request.new.host) (h.said c.args.host.now) (h.said c.serve_request.new.host) o 0) (c.serve_request.ensures.done e)

pub returns-in-Ok-clause-asked : goal.returns-in-Ok-clause-asked
returns-in-Ok-clause-asked g c = λ e. (c.in-Ok.request, c.in-Ok.ensures.asked)

pub returns-in-Ok-clause-usage : goal.returns-in-Ok-clause-usage
returns-in-Ok-clause-usage g c = λ e. absurd (not_usage c.serve_request.result c.serve_request.ensures.kinds e)

pub returns-in-Ok-clause-unasked : goal.returns-in-Ok-clause-unasked
returns-in-Ok-clause-unasked g c = λ none. absurd (none c.in-Ok.request c.in-Ok.ensures.asked)

pub returns-in-Ok-clause-host_cause : goal.returns-in-Ok-clause-host_cause
returns-in-Ok-clause-host_cause g c = λ e steady.
    let h = g.H.Host in
    by_words (asked (map string_bytes c.args.words.now)) c.in-Ok.request c.in-Ok.ensures.asked.request
    (λ o. RunsAs (h.files c.args.host.now) (h.files c.serve_request.new.host) (h.said c.args.host.now) (h.said c.serve_request.new.host) o 3) (c.serve_request.ensures.cause e steady)

pub returns-in-Ok-clause-refused : goal.returns-in-Ok-clause-refused
returns-in-Ok-clause-refused g c = λ e.
    let h = g.H.Host in
    by_words (asked (map string_bytes c.args.words.now)) c.in-Ok.request c.in-Ok.ensures.asked.request
    (λ o. RunsAs (h.files c.args.host.now) (h.files c.serve_request.new.host) (h.said c.args.host.now) (h.said c.serve_request.new.host) o 4) (c.serve_request.ensures.refused e)

pub returns-in-Ok-clause-ends : goal.returns-in-Ok-clause-ends
returns-in-Ok-clause-ends g c = λ e r is steady.
    let h = g.H.Host in
    let same : c.in-Ok.request ≡ r = same_request (asked (map string_bytes c.args.words.now)) c.in-Ok.request r c.in-Ok.ensures.asked.request is in
    c.serve_request.ensures.ends e (subst (λ (x : Request). AreSteady (h.source_steady c.args.host.now) (h.sink_steady c.args.host.now) x.scripts) (sym same) steady)

pub returns-in-Ok-clause-says : goal.returns-in-Ok-clause-says
returns-in-Ok-clause-says g c =
    let h = g.H.Host in
    let b = c.args.host.now in
    let s = c.serve_request.ensures.says in
    let said = by_words (asked (map string_bytes c.args.words.now)) c.in-Ok.request c.in-Ok.ensures.asked.request
    (λ o. Says (h.files b) (h.files c.serve_request.new.host) (h.source_steady b) (h.sink_steady b) o c.serve_request.result s.0) s.2 in
    (s.0, s.1, said)

pub returns-in-Ok-clause-files : goal.returns-in-Ok-clause-files
returns-in-Ok-clause-files g c =
    let h = g.H.Host in
    by_words (asked (map string_bytes c.args.words.now)) c.in-Ok.request c.in-Ok.ensures.asked.request
    (λ o. KeepsFiles (h.files c.args.host.now) (h.files c.serve_request.new.host) o) c.serve_request.ensures.files

-- ---- the words give none
pub returns-in-Err-clause-headline : goal.returns-in-Err-clause-headline
returns-in-Err-clause-headline g c = λ r is steady ends.
    let h = g.H.Host in
    let b = c.args.host.now in
    let a = c.unasked.new.host in
    let u = c.unasked.ensures in
    let o = asked (map string_bytes c.args.words.now) in
    let all = steady_unasked (h.files b) (h.files a) (h.said b) (h.said a) o c.in-Err.error c.unasked.result u.says.0
    (λ e r at fit. c.read_words.ensures.usage (c.in-Err.is ∙ ap (λ (w : WordsError). Err w) e) r (record { request = at; scripts = fit })) u.files u.says.1 u.says.2 (u.sure steady) in
    subst (λ (x : Option Request). (c.unasked.result ≡ 1) ⊎ RunsAs (h.files b) (h.files a) (h.said b) (h.said a) x c.unasked.result) is all

pub returns-in-Err-clause-complete : goal.returns-in-Err-clause-complete
returns-in-Err-clause-complete g c = λ r is steady ends.
    let h = g.H.Host in
    complete c.one_run.ensures (h.files c.args.host.now) (h.files c.unasked.new.host) (h.said c.args.host.now) (h.said c.unasked.new.host) r c.unasked.result
    (returns-in-Err-clause-headline g c r is steady ends)

pub returns-in-Err-clause-accepted : goal.returns-in-Err-clause-accepted
returns-in-Err-clause-accepted g c = λ r is steady ends.
    let h = g.H.Host in
    accepted c.one_end.ensures.not_both (h.files c.args.host.now) (h.files c.unasked.new.host) (h.said c.args.host.now) (h.said c.unasked.new.host) r c.unasked.result is.scripts
    (returns-in-Err-clause-headline g c r is.request steady ends)

pub returns-in-Err-clause-statuses : goal.returns-in-Err-clause-statuses
returns-in-Err-clause-statuses g c =
    let s = c.unasked.ensures.says in
    unasked_status c.unasked.result (unasked_kinds c.in-Err.error c.unasked.result s.0 s.2)

pub returns-in-Err-clause-done : goal.returns-in-Err-clause-done
returns-in-Err-clause-done g c = λ e.
    let s = c.unasked.ensures.says in
    absurd (not_served c.unasked.result (unasked_kinds c.in-Err.error c.unasked.result s.0 s.2) (inl e))

pub returns-in-Err-clause-asked : goal.returns-in-Err-clause-asked
returns-in-Err-clause-asked g c = λ e.
    let s = c.unasked.ensures.says in
    absurd (not_served c.unasked.result (unasked_kinds c.in-Err.error c.unasked.result s.0 s.2) e)

pub returns-in-Err-clause-usage : goal.returns-in-Err-clause-usage
returns-in-Err-clause-usage g c = λ e.
    let u = c.unasked.ensures in
    let k = usage_said c.in-Err.error c.unasked.result u.says.0 u.says.2 e in (
      λ r is. c.read_words.ensures.usage (c.in-Err.is ∙ ap (λ (w : WordsError). Err w) k.1) r is,
      u.says.1 ∙ ap (λ (t : List ℕ). appended t (g.H.Host.said c.args.host.now)) k.0,
      u.files,
    )

pub returns-in-Err-clause-unasked : goal.returns-in-Err-clause-unasked
returns-in-Err-clause-unasked g c = λ none.
    let s = c.unasked.ensures.says in
    unasked_kinds c.in-Err.error c.unasked.result s.0 s.2

pub returns-in-Err-clause-host_cause : goal.returns-in-Err-clause-host_cause
returns-in-Err-clause-host_cause g c = λ e steady. absurd (no_fault_when_steady c.unasked.result (c.unasked.ensures.sure steady) e)

pub returns-in-Err-clause-refused : goal.returns-in-Err-clause-refused
returns-in-Err-clause-refused g c = λ e.
    let s = c.unasked.ensures.says in
    absurd (not_served c.unasked.result (unasked_kinds c.in-Err.error c.unasked.result s.0 s.2) (inr (inl e)))

pub returns-in-Err-clause-ends : goal.returns-in-Err-clause-ends
returns-in-Err-clause-ends g c = λ e r is steady.
    let s = c.unasked.ensures.says in
    not_served c.unasked.result (unasked_kinds c.in-Err.error c.unasked.result s.0 s.2) (inr (inr e))

pub returns-in-Err-clause-says : goal.returns-in-Err-clause-says
returns-in-Err-clause-says g c =
    let h = g.H.Host in
    let b = c.args.host.now in
    let s = c.unasked.ensures.says in
    let said = says_unasked (asked (map string_bytes c.args.words.now)) (h.files b) (h.files c.unasked.new.host) (h.source_steady b) (h.sink_steady b) c.in-Err.error c.unasked.result s.0
    (λ e r at fit. c.read_words.ensures.usage (c.in-Err.is ∙ ap (λ (w : WordsError). Err w) e) r (record { request = at; scripts = fit })) s.2 in
    (s.0, s.1, said)

pub returns-in-Err-clause-files : goal.returns-in-Err-clause-files
returns-in-Err-clause-files g c =
    keeps_same (g.H.Host.files c.args.host.now) (g.H.Host.files c.unasked.new.host) (asked (map string_bytes c.args.words.now)) c.unasked.ensures.files
