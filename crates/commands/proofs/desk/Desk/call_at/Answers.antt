use Rattle.std.proofs.Common.{◌≡◌, List, ℕ, ap, subst, ◌∙◌}
use Rattle.char_files.specs.Plain.{plain_items}
use Rattle.reader_scanner.specs.ReaderState.{item_bytes}
use Rattle.command_words.specs.Commands.{menu_of}
use Rattle.texts.specs.TextState.{TextState, shown_items}
use Rattle.machine.specs.SiteTexts.{IsTextOf}
use Rattle.commands.proofs.Clicks.{calls_none, calls_there, in_menu, in_text}
use Rattle.commands.specs.Steps.{DeskSeen}
use Rattle.commands.proofs.desk.Desk.call_at.Goals as goal

pub returns-in-Menu-clause-some : goal.returns-in-Menu-clause-some
returns-in-Menu-clause-some c = λ seen is.
    let bytes : List ℕ = c.as_slice.result.now in
    let are : bytes ≡ menu_of c.args.at.now.viewer c.args.at.now.text =
    c.as_slice.ensures.value ∙ c.menu_text-menu.ensures ∙ ap (menu_of c.args.at.now.viewer) c.get.ensures.value in
    calls_there (item_bytes (plain_items bytes)) seen.bytes c.in-Menu.pos seen.pos c.command_at.result
    (in_menu c.args.self.now.texts seen c.args.at.now is c.in-Menu.pos bytes c.in-Menu.is are) c.command_at.ensures.some

pub returns-in-Menu-clause-none : goal.returns-in-Menu-clause-none
returns-in-Menu-clause-none c = λ seen is none.
    let bytes : List ℕ = c.as_slice.result.now in
    let are : bytes ≡ menu_of c.args.at.now.viewer c.args.at.now.text =
    c.as_slice.ensures.value ∙ c.menu_text-menu.ensures ∙ ap (menu_of c.args.at.now.viewer) c.get.ensures.value in
    calls_none (item_bytes (plain_items bytes)) seen.bytes c.in-Menu.pos seen.pos
    (in_menu c.args.self.now.texts seen c.args.at.now is c.in-Menu.pos bytes c.in-Menu.is are) (c.command_at.ensures.none none)

pub returns-in-Text-clause-some : goal.returns-in-Text-clause-some
returns-in-Text-clause-some c = λ seen is.
    let t : TextState = c.replica.result.now in
    let there : IsTextOf c.args.self.now.texts c.args.at.now.text t =
    subst (λ (x : DeskSeen). IsTextOf x.texts c.args.at.now.text t) c.self.view_is c.replica.ensures in
    calls_there (item_bytes (shown_items t)) seen.bytes c.in-Text.pos seen.pos c.command_at-in-Text.result
    (in_text c.args.self.now.texts seen c.args.at.now is c.in-Text.pos t c.in-Text.is there) c.command_at-in-Text.ensures.some

pub returns-in-Text-clause-none : goal.returns-in-Text-clause-none
returns-in-Text-clause-none c = λ seen is none.
    let t : TextState = c.replica.result.now in
    let there : IsTextOf c.args.self.now.texts c.args.at.now.text t =
    subst (λ (x : DeskSeen). IsTextOf x.texts c.args.at.now.text t) c.self.view_is c.replica.ensures in
    calls_none (item_bytes (shown_items t)) seen.bytes c.in-Text.pos seen.pos
    (in_text c.args.self.now.texts seen c.args.at.now is c.in-Text.pos t c.in-Text.is there)
    (c.command_at-in-Text.ensures.none none)
