pub mod SceneLine
pub mod LineViews
pub mod SaidScenes
pub mod Laws
