-- What check 1 asks of a state beside its tables of regions and pages.
use Rattle.std.specs.Prelude.{ℕ, Bool, ◌&&◌, List}
use Rattle.model.specs.Geometry.{pages_fit}
use Rattle.model.specs.State.{is_ready}
use Rattle.model.specs.Valid.{rights_fit, errors_fit, queues_fit, progress_fits, physical_fits, running_fits}
use Rattle.model.specs.declared.Controller.{Controller}
use Rattle.registers.specs.Registers.{stands_for}

abbrev pub rest_of : Controller → Bool
rest_of c =
    pages_fit c.setup.pages
    && (rights_fit c.setup.settings.default_rights
    && (errors_fit c.errors
    && (queues_fit (is_ready c.phase) c.queues
    && (progress_fits (is_ready c.phase) c.progress
    && (physical_fits c.physical
    && running_fits c.setup c.queues.programs c.progress)))))

unfoldable pub rest_fits : List ℕ → Bool
rest_fits s = rest_of (stands_for s)
