use Rattle.std.proofs.Common.{rules, refl, ◌≡◌}
use Rattle.comemo.proofs.Lateness.{still_early}
use Rattle.comemo.specs.MultiLaws.{by_parts}
use Rattle.comemo_site.proofs.Recorded.{recorded_page}
use Rattle.comemo_site.specs.Pages.{page_html, page_warnings}
use Rattle.comemo_site.specs.SiteLaws.{any_alike}
use Rattle.comemo_site.specs.Sites.{site_answer}
use Rattle.comemo_site.proofs.publish.page_recorded.Goals as goal

pub returns : goal.returns
returns g c =
    let complete = c.new-recording.ensures in
    let page = recorded_page (λ n. by_parts _ (any_alike n) (λ x y h. search rules) (λ x y h. search rules) (λ x y h. search rules)) (λ m. page_html m c.args.limit c.args.name) (λ m. page_warnings m c.args.limit c.args.name) (site_answer c.args.both.now.first.pages) (rw c.new-recorder.ensures.value refl) _ (search (rules, complete)) (search (rules, complete)) (search (rules, complete)) c.in_ok-html.ensures.tells (still_early c.in_ok-html.ensures.tells.goes (by_parts _ (λ x y. refl) (λ x y. refl) (λ x y. refl) (λ x y. refl)) (search (rules, complete))) in
    let pairs : c.into_parts-reads.result.0.pairs ≡ c.built.new.both.recording.now.pairs = search (rules, c.into_parts-reads.ensures.pairs, c.in_ok-html.ensures.tells.goes.same_recording, c.new-recorder.ensures.same_recording) in
    let writes : c.into_parts-reads.result.1.items ≡ c.built.new.both.recording.now.writes = search (rules, c.into_parts-reads.ensures.writes, c.in_ok-html.ensures.tells.goes.same_recording, c.new-recorder.ensures.same_recording) in
    rw (pairs, writes) page

pub built-requires : goal.built-requires
built-requires g c = record { agrees = λ complete. (c.args.both.now, record { done = rw (c.new-recorder.ensures.value, c.new-recorder.ensures.recording, c.new-recording.ensures.writes) refl; agrees = λ l. rw (c.new-recorder.ensures.recording, c.new-recording.ensures.pairs) tt }) }
